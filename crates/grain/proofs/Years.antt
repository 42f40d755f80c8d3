-- Five years of the months traded as bits, held to the lists of months.
use Prim.Native.Nat.{ℕ, ◌+◌, ◌*◌, ◌/◌, ◌%◌, ◌^◌, ◌<◌}
use mathlib.Core.Path.{◌≡◌, refl, ◌∙◌}
use mathlib.Core.Bool.{Bool, true, beq}
use native.Mathlib.Omega.{arith}
use lib.Dec.{eqb}
use lib.ListN.{get_or}
use Rattle.grain.specs.Products.{grain_months, soybean_months, oil_and_meal_months, rice_months, months_traded, is_traded}
use Rattle.grain.proofs.Below.{below, all_below}
use Rattle.grain.proofs.MonthSets.{sets}
use Rattle.grain.proofs.Tests.{beq_same}

abbrev pub years_of : ℕ → ℕ
years_of p = get_or sets p 0 * 281543712968705

has_bit : ℕ → ℕ → Bool
has_bit p k = eqb (years_of p / 2 ^ k % 2) 1

is_same : ℕ → ℕ → Bool
is_same p k = beq (has_bit p k) (is_traded p k)

all_same : all_below 8 (λ p. all_below 60 (is_same p)) ≡ true
unfolding is_same has_bit is_traded months_traded grain_months soybean_months oil_and_meal_months rice_months
all_same = refl

bit_traded : (p : ℕ) → p < 8 → (k : ℕ) → k < 60 → has_bit p k ≡ is_traded p k
unfolding is_same
bit_traded p h k l = beq_same (has_bit p k) (is_traded p k) (below 60 (is_same p) (below 8 (λ p. all_below 60 (is_same p)) all_same p h) k l)

same_month : (p k m : ℕ) → k % 12 ≡ m % 12 → is_traded p k ≡ is_traded p m
unfolding is_traded
same_month p k m e = rw e

pub traded_after : (p month d : ℕ) → p < 8 → d < 48 → eqb (years_of p / 2 ^ (month % 12 + d) % 2) 1 ≡ is_traded p (month + d)
unfolding has_bit
traded_after p month d h l = bit_traded p h (month % 12 + d) (omega arith) ∙ same_month p (month % 12 + d) (month + d) (omega arith)
