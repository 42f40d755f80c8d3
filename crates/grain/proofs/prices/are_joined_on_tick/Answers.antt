use native.Mathlib.Omega.{arith}
use borrow.Author.Tests.{leb-true}
use Rattle.grain.proofs.Joins.{joined_on_tick}
use Rattle.grain.proofs.prices.are_joined_on_tick.Goals as goal

pub returns-clause-accepts : goal.returns-clause-accepts
returns-clause-accepts c =
    λ e x l.
    joined_on_tick c.args.tick c.args.joined x (λ z. omega (arith, z, c.if-tick-lt1.false)) (omega (arith, c.if-tick-gt2.false)) (omega (arith, c.if-joined-gt-MAX_JOINED.false)) (leb-true _ _ e) l
