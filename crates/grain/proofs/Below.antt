-- What is computed at every number below a bound holds at each of them: a test, and a proof number by number.
use Prim.Native.Nat.{ℕ, zero, suc, ◌<◌}
use mathlib.Core.Path.{◌≡◌, subst⁻¹}
use mathlib.Core.Bool.{Bool, true, ◌&&◌}
use mathlib.Core.Logic.{⊎_elim}
use Rattle.grain.proofs.Tests.{&&-left, &&-right}
use native.Mathlib.Nat.{eq-or-lt_of_le, le_of_suc-le-suc, not-suc-le-zero}

abbrev pub all_below : ℕ → (ℕ → Bool) → Bool
all_below zero f = true
all_below (suc n) f = f n && all_below n f

pub below : (n : ℕ) (f : ℕ → Bool) → all_below n f ≡ true → (k : ℕ) → k < n → f k ≡ true
below zero f e k l = absurd (not-suc-le-zero l)
below (suc n) f e k l =
    ⊎_elim
    (λ (h : k ≡ n). subst⁻¹ (λ (m : ℕ). f m ≡ true) h (&&-left (f n) (all_below n f) e))
    (λ (h : k < n). below n f (&&-right (f n) (all_below n f) e) k h)
    (eq-or-lt_of_le (le_of_suc-le-suc l))

-- C, from a proof of it for each number below n that k may be, the greatest first
abbrev pub Cases : Type 0 → ℕ → ℕ → Type 0
Cases C k zero = C
Cases C k (suc n) = (k ≡ n → C) → Cases C k n

whichever : (C : Type 0) (k n : ℕ) → C → Cases C k n
whichever C k zero c = c
whichever C k (suc n) c = λ f. whichever C k n c

-- each case computes by its number, so that no text of C is needed
pub by_cases : (C : Type 0) (k n : ℕ) → k < n → Cases C k n
by_cases C k zero l = absurd (not-suc-le-zero l)
by_cases C k (suc n) l =
    λ f. ⊎_elim (λ (h : k ≡ n). whichever C k n (f h)) (λ (h : k < n). by_cases C k n h) (eq-or-lt_of_le (le_of_suc-le-suc l))

-- P of every number below n: `search` finds it where P computes at each of them, however many they are
abbrev pub Each : (ℕ → Type 0) → ℕ → Type 0
Each P zero = Unit {0}
Each P (suc n) = P n × Each P n

pub each : (P : ℕ → Type 0) (n : ℕ) → Each P n → (k : ℕ) → k < n → P k
each P zero e k l = absurd (not-suc-le-zero l)
each P (suc n) e k l =
    ⊎_elim (λ (h : k ≡ n). subst⁻¹ P h e.0) (λ (h : k < n). each P n e.1 k h) (eq-or-lt_of_le (le_of_suc-le-suc l))
