use mathlib.Core.Path.{refl, sym}
use Rattle.grain.specs.Products.{firsts}
use Rattle.grain.proofs.Columns.{beyond}
use Rattle.grain.proofs.products.first_contracts.Goals as goal

pub returns-then-product-ge-PRODUCTS : goal.returns-then-product-ge-PRODUCTS
unfolding firsts
returns-then-product-ge-PRODUCTS c = sym (beyond firsts c.args.product refl c.if-product-ge-PRODUCTS.true)

pub returns : goal.returns
unfolding firsts
returns c = refl
