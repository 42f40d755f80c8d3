use mathlib.Core.Path.{◌≡◌, refl, ◌∙◌, ap}
use native.Mathlib.Omega.{arith}
use lib.Dec.{eqb}
use Prim.Native.Nat.{ℕ, ◌+◌, ◌-◌, ◌/◌, ◌%◌, ◌^◌, ◌<◌}
use lib.Pow.{shr-shr}
use Rattle.std.proofs.lemmas.Nat.{mod-pow-add, field_of}
use Rattle.grain.specs.Products.{is_traded}
use Rattle.std.proofs.Math.Nat.{zero-div}
use Rattle.grain.proofs.MonthSets.{none_traded}
use Rattle.grain.proofs.Years.{years_of, traded_after}
use Rattle.grain.proofs.products.traded_from.Goals as goal

-- the low 48 bits are those of the number
low_bit : (n d : ℕ) → d < 48 → n % 2 ^ 48 / 2 ^ d % 2 ≡ n / 2 ^ d % 2
low_bit n d l =
    let whole : 47 - d + 1 + d ≡ 48 = omega arith in
    let field = rw whole at (field_of n (47 - d + 1) d) in
    let split = mod-pow-add (n / 2 ^ d) (47 - d) 1 in
    ap (λ (m : ℕ). m % 2) (field ∙ split) ∙ omega arith

-- the code's two shifts are one
shifted : (p month d : ℕ) → p < 8 → d < 48 → eqb (years_of p / 2 ^ (month % 12) % 2 ^ 48 / 2 ^ d % 2) 1 ≡ is_traded p (month + d)
shifted p month d h l =
    ap (λ (n : ℕ). eqb n 1) (low_bit (years_of p / 2 ^ (month % 12)) d l ∙ ap (λ (n : ℕ). n % 2) (shr-shr (years_of p) (month % 12) d))
    ∙ traded_after p month d h l

pub returns-then-product-ge-PRODUCTS-clause-months : goal.returns-then-product-ge-PRODUCTS-clause-months
returns-then-product-ge-PRODUCTS-clause-months c = λ d h. rw (zero-div (2 ^ d), none_traded c.args.product (c.args.month + d) c.if-product-ge-PRODUCTS.true) refl

pub returns-clause-months : goal.returns-clause-months
returns-clause-months c = λ d. shifted c.args.product c.args.month d c.if-product-ge-PRODUCTS.false
