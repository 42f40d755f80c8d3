use borrow.Author.Tests.{lt-leb, le-leb, eq-eqb, ne_eqb}
use Rattle.grain.specs.Prices.{is_on_tick}
use Rattle.grain.proofs.OnTick.{on_small_tick}
use Rattle.grain.proofs.prices.is_on_tick.Goals as goal

pub returns-then-tick-eq0 : goal.returns-then-tick-eq0
unfolding is_on_tick
returns-then-tick-eq0 c = simp (eq-eqb _ _ c.if-tick-eq0.true)

pub returns-then-price-lt1 : goal.returns-then-price-lt1
unfolding is_on_tick
returns-then-price-lt1 c = simp (ne_eqb _ _ c.if-tick-eq0.false, lt-leb _ _ c.if-price-lt1.true)

pub returns-then-price-gt-MAX_PRICE : goal.returns-then-price-gt-MAX_PRICE
unfolding is_on_tick
returns-then-price-gt-MAX_PRICE c = simp (ne_eqb _ _ c.if-tick-eq0.false, le-leb _ _ c.if-price-lt1.false, lt-leb _ _ c.if-price-gt-MAX_PRICE.true)

pub returns-then-tick-gt2 : goal.returns-then-tick-gt2
unfolding is_on_tick
returns-then-tick-gt2 c = simp (ne_eqb _ _ c.if-tick-eq0.false, le-leb _ _ c.if-price-lt1.false, le-leb _ _ c.if-price-gt-MAX_PRICE.false)

pub returns : goal.returns
unfolding is_on_tick
returns c =
    simp
    (ne_eqb _ _ c.if-tick-eq0.false, le-leb _ _ c.if-price-lt1.false, le-leb _ _ c.if-price-gt-MAX_PRICE.false)
    (on_small_tick _ _ c.if-tick-eq0.false c.if-tick-gt2.false)
