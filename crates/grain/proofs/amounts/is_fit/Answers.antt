use borrow.Author.Tests.{lt-ltb, le-ltb, lt-leb, le-leb}
use Rattle.grain.specs.Amounts.{is_fit}
use Rattle.grain.proofs.Columns.{step_positive}
use Rattle.grain.proofs.amounts.is_fit.Goals as goal

pub returns-then-product-ge-PRODUCTS : goal.returns-then-product-ge-PRODUCTS
unfolding is_fit
returns-then-product-ge-PRODUCTS c = simp (le-ltb _ _ c.if-product-ge-PRODUCTS.true)

pub returns-then-amount-floor : goal.returns-then-amount-floor
unfolding is_fit
returns-then-amount-floor c = simp (lt-ltb _ _ c.if-product-ge-PRODUCTS.false, lt-leb _ _ (rw c.floor.ensures at c.if-amount-floor.true))

pub returns-then-most-amount : goal.returns-then-most-amount
unfolding is_fit
returns-then-most-amount c = simp (lt-ltb _ _ c.if-product-ge-PRODUCTS.false, le-leb _ _ (rw c.floor.ensures at c.if-amount-floor.false), lt-leb _ _ c.if-most-amount.true)

pub nonzero_rem-result : goal.nonzero_rem-result
nonzero_rem-result c = rw c.step.ensures (step_positive c.args.product c.if-product-ge-PRODUCTS.false)

pub returns : goal.returns
unfolding is_fit
returns c =
    simp
    (c.step.ensures, lt-ltb _ _ c.if-product-ge-PRODUCTS.false, le-leb _ _ (rw c.floor.ensures at c.if-amount-floor.false), le-leb _ _ c.if-most-amount.false)
