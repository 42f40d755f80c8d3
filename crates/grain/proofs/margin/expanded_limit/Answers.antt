use mathlib.Core.Path.{sym, ◌∙◌}
use borrow.Author.Tests.{lt-ltb, le-ltb}
use Rattle.grain.specs.Margin.{expanded_limit}
use Rattle.grain.proofs.margin.expanded_limit.Goals as goal

pub returns-then-product-ge-PRODUCTS : goal.returns-then-product-ge-PRODUCTS
unfolding expanded_limit
returns-then-product-ge-PRODUCTS c = simp (le-ltb _ _ c.if-product-ge-PRODUCTS.true)

pub returns-then-not-is_fit_amount : goal.returns-then-not-is_fit_amount
unfolding expanded_limit
returns-then-not-is_fit_amount c = simp (lt-ltb _ _ c.if-product-ge-PRODUCTS.false, sym c.is_fit_amount.ensures ∙ c.if-not-is_fit_amount.true)

pub returns : goal.returns
unfolding expanded_limit
returns c = simp (c.expanded.ensures, lt-ltb _ _ c.if-product-ge-PRODUCTS.false, sym c.is_fit_amount.ensures ∙ c.if-not-is_fit_amount.false)
