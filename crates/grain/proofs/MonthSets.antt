-- The months traded as sets of bits, held to the lists of months at all eight products and twelve months at once.
use Prim.Native.Nat.{ℕ, ◌+◌, ◌/◌, ◌%◌, ◌^◌, ◌<◌, ◌≤◌}
use mathlib.Core.Path.{◌≡◌, refl}
use mathlib.Core.Bool.{Bool, true, false, beq}
use mathlib.Core.List.{List, [], ◌∷◌}
use lib.Dec.{eqb}
use lib.ListN.{get_or, get_or-eq_default}
use Rattle.grain.specs.Lists.{is_in}
use Rattle.grain.specs.Products.{grain_months, soybean_months, oil_and_meal_months, rice_months, months_traded, is_traded}
use Rattle.grain.proofs.Below.{below, all_below}
use Rattle.grain.proofs.Tests.{beq_same}

abbrev pub sets : List ℕ
sets = 2388 ∷ 1493 ∷ 3029 ∷ 3029 ∷ 2388 ∷ 2388 ∷ 2388 ∷ 1365 ∷ []

-- the code's test of month k, January being 0
abbrev pub has_bit : ℕ → ℕ → Bool
has_bit p k = eqb (get_or sets p 0 / 2 ^ k % 2) 1

abbrev agrees : ℕ → ℕ → Bool
agrees p k = beq (has_bit p k) (is_in (k + 1) (get_or months_traded p []))

all_agree : (p : ℕ) → p < 8 → all_below 12 (agrees p) ≡ true
unfolding grain_months soybean_months oil_and_meal_months rice_months months_traded
all_agree p l = below 8 (λ p. all_below 12 (agrees p)) refl p l

pub bit_is_month : (p k : ℕ) → p < 8 → k < 12 → has_bit p k ≡ is_in (k + 1) (get_or months_traded p [])
bit_is_month p k l h = beq_same (has_bit p k) _ (below 12 (agrees p) (all_agree p l) k h)

pub none_traded : (p month : ℕ) → 8 ≤ p → is_traded p month ≡ false
unfolding is_traded months_traded
none_traded p month l = rw (get_or-eq_default months_traded [] {n = p} l)
