use Prim.Native.Nat.{◌<◌}
use Rattle.grain.proofs.Below.{by_cases}
use native.Mathlib.Omega.{arith}
use mathlib.Core.Path.{sym}
use borrow.Author.Tests.{ne_eqb}
use Rattle.grain.specs.Products.{standard_ticks, mini_ticks, tick_of}
use Rattle.grain.proofs.Columns.{tick_beyond}
use Rattle.grain.proofs.products.tick.Goals as goal

pub returns-then-product-ge-PRODUCTS : goal.returns-then-product-ge-PRODUCTS
returns-then-product-ge-PRODUCTS c = sym (tick_beyond c.args.product c.args.size c.if-product-ge-PRODUCTS.true)

pub returns-then-size-gt1 : goal.returns-then-size-gt1
unfolding tick_of
returns-then-size-gt1 c =
    let size = c.args.size in
    simp (ne_eqb size 0 (λ e. omega arith), ne_eqb size 1 (λ e. omega arith))

pub returns : goal.returns
unfolding tick_of standard_ticks mini_ticks
returns c =
    let small : c.args.size < 2 = omega arith in
    by_cases _ c.args.size 2 small (λ e. rw e) (λ e. rw e)
