use mathlib.Core.Path.{refl, sym}
use native.Mathlib.Omega.{arith}
use borrow.Author.Tests.{ne_eqb}
use Rattle.grain.specs.Products.{last_crop_months, calendar_month, is_last_crop_month}
use Rattle.grain.proofs.Columns.{beyond}
use Rattle.grain.proofs.products.is_last_crop_month.Goals as goal

-- no month is 0, which is the last of no product

pub returns-then-product-ge-PRODUCTS : goal.returns-then-product-ge-PRODUCTS
unfolding is_last_crop_month last_crop_months
returns-then-product-ge-PRODUCTS c =
    rw (beyond last_crop_months c.args.product refl c.if-product-ge-PRODUCTS.true)
    (sym (ne_eqb (calendar_month c.args.month) 0 (λ e. omega arith)))

pub returns : goal.returns
unfolding is_last_crop_month last_crop_months
returns c = refl
