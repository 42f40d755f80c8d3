use native.Mathlib.Omega.{arith}
use borrow.Author.Count.{below_more}
use Rattle.grain.specs.Prices.{is_on_tick}
use Rattle.grain.proofs.Joins.{every_at}
use Rattle.grain.proofs.prices.are_plain.Goals as goal

pub loop-price-init : goal.loop-price-init
loop-price-init c = λ j h. absurd (omega (arith, h))

pub loop-price-preserved : goal.loop-price-preserved
loop-price-preserved c =
    below_more _ c.loop-price.price-index (λ j h. c.join-joined.ensures.still _ (c.loop-price.invariant j h)) c.join-joined.ensures.now

pub returns : goal.returns
returns c =
    λ e. every_at (is_on_tick c.args.tick) c.args.prices.now
    (λ j h. c.are_joined_on_tick.ensures.accepts e _ (c.loop-price.invariant j (omega (arith, h, c.loop-price-test.false))))
