use borrow.Author.Tests.{lt-leb, le-leb, eq-eqb, ne_eqb}
use Rattle.grain.specs.Spot.{is_spot}
use Rattle.grain.proofs.spot.TradeDate.is_spot.Goals as goal

pub returns-then-month-self : goal.returns-then-month-self
unfolding is_spot
returns-then-month-self c = simp (le-leb _ _ c.if-month-self.true)

pub returns-then-month-self-2 : goal.returns-then-month-self-2
unfolding is_spot
returns-then-month-self-2 c = simp (lt-leb _ _ c.if-month-self.false, ne_eqb _ _ c.if-month-self-2.true)

pub returns : goal.returns
unfolding is_spot
returns c = simp (lt-leb _ _ c.if-month-self.false, eq-eqb _ _ c.if-month-self-2.false)
