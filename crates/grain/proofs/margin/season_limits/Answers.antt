use native.Mathlib.Omega.{arith}
use mathlib.Core.Path.{sym, ◌∙◌}
use borrow.Author.Tests.{lt-ltb, le-ltb, eq-eqb, ne_eqb}
use Rattle.grain.specs.Margin.{season_limits}
use Rattle.grain.proofs.Sums.{sum_small}
use Rattle.grain.proofs.margin.season_limits.Goals as goal

pub returns-then-product-ge-PRODUCTS : goal.returns-then-product-ge-PRODUCTS
unfolding season_limits
returns-then-product-ge-PRODUCTS c = simp (le-ltb _ _ c.if-product-ge-PRODUCTS.true)

pub returns-then-settlements-ne-WINDOW_LENGTH : goal.returns-then-settlements-ne-WINDOW_LENGTH
unfolding season_limits
returns-then-settlements-ne-WINDOW_LENGTH c = simp (lt-ltb _ _ c.if-product-ge-PRODUCTS.false, ne_eqb _ _ c.if-settlements-ne-WINDOW_LENGTH.true)

pub returns-then-not-are_settlements : goal.returns-then-not-are_settlements
unfolding season_limits
returns-then-not-are_settlements c = simp (lt-ltb _ _ c.if-product-ge-PRODUCTS.false, eq-eqb _ _ c.if-settlements-ne-WINDOW_LENGTH.false, sym c.are_settlements.ensures ∙ c.if-not-are_settlements.true)

pub sum_of-requires : goal.sum_of-requires
sum_of-requires c =
    let a = c.args in
    let all = sym c.are_settlements.ensures ∙ c.if-not-are_settlements.false in
    omega (arith, sum_small a.product a.settlements.now all, c.if-settlements-ne-WINDOW_LENGTH.false)

pub returns : goal.returns
unfolding season_limits
returns c =
    simp
    (c.of.ensures, c.season_initial-initial.ensures, c.sum_of.ensures, lt-ltb _ _ c.if-product-ge-PRODUCTS.false, eq-eqb _ _ c.if-settlements-ne-WINDOW_LENGTH.false, sym c.are_settlements.ensures ∙ c.if-not-are_settlements.false)
