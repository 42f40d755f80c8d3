use mathlib.Core.Path.{sym}
use native.Mathlib.Nat.{mod-lt}
use lib.Dec.{lit<}
use Rattle.grain.specs.Products.{is_traded}
use Rattle.grain.proofs.MonthSets.{bit_is_month, none_traded}
use Rattle.grain.proofs.products.is_traded.Goals as goal

pub returns-then-product-ge-PRODUCTS : goal.returns-then-product-ge-PRODUCTS
returns-then-product-ge-PRODUCTS c = sym (none_traded c.args.product c.args.month c.if-product-ge-PRODUCTS.true)

pub returns : goal.returns
unfolding is_traded
returns c = bit_is_month c.args.product _ c.if-product-ge-PRODUCTS.false (mod-lt c.args.month (lit< tt))
