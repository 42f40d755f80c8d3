-- Lists of numbers: those below n, with a loop over them that asks a test of each, and functions that agree on a list.
use Prim.Native.Nat.{ℕ, zero, suc, ◌+◌, ◌<◌, ◌≤◌}
use mathlib.Core.Path.{◌≡◌, refl, sym, ◌∙◌, ap, ap₂}
use mathlib.Core.Bool.{Bool, true, false, ◌||◌}
use mathlib.Core.List.{List, [], ◌∷◌, map}
use native.Mathlib.Nat.{le_of_suc-le-suc, not-suc-le-zero, zero-add}
use lib.ListN.{length, get_or, drop}
use lib.Seq.{ext_get_or}
use Rattle.std.specs.List.{list_any, range_with_len}
use Rattle.std.proofs.lemmas.List.FromFn.{length-range_with_len, get_or-range_with_len, length-map-range_with_len, get_or-map-range_with_len}
use Rattle.grain.specs.Lists.{every}
use Rattle.grain.proofs.Tests.{and_left, and_right}
use Rattle.grain.proofs.Scans.{every_fails, every_goes_on, every_end}

pub number_at : (n i : ℕ) → i < n → get_or (range_with_len 0 n) i 0 ≡ i
number_at n i l = get_or-range_with_len 0 n i 0 l ∙ zero-add i

every_at : (test : ℕ → Bool) (xs : List ℕ) (i : ℕ) → every test xs ≡ true → i < length xs → test (get_or xs i 0) ≡ true
unfolding every
every_at test [] i t l = absurd (not-suc-le-zero l)
every_at test (x ∷ xs) zero t l = and_left _ _ t
every_at test (x ∷ xs) (suc i) t l = every_at test xs i (and_right _ _ t) (le_of_suc-le-suc l)

-- ---- a loop over the numbers below n
module _ (test : ℕ → Bool) (n p : ℕ) where
  abbrev numbers : List ℕ
  numbers = range_with_len 0 n

  fits : p < n → p < length numbers
  fits l = rw (length-range_with_len 0 n) l

  pub one_fails : p < n → test p ≡ false → every test numbers ≡ every test (drop p numbers) → every test numbers ≡ false
  one_fails l e inv = inv ∙ every_fails test numbers p (fits l) (ap test (number_at n p l) ∙ e)

  pub one_goes_on : p < n → test p ≡ true → every test numbers ≡ every test (drop p numbers)
      → every test numbers ≡ every test (drop (p + 1) numbers)
  one_goes_on l e inv = inv ∙ every_goes_on test numbers p (fits l) (ap test (number_at n p l) ∙ e)

  pub none_left : n ≤ p → every test numbers ≡ every test (drop p numbers) → every test numbers ≡ true
  none_left l inv = let ends : length numbers ≤ p = rw (length-range_with_len 0 n) l in inv ∙ every_end test numbers p ends

  pub each_passes : every test numbers ≡ true → p < n → test p ≡ true
  each_passes t l = ap test (sym (number_at n p l)) ∙ every_at test numbers p t (fits l)

-- ---- a list that has f of each number below n
module _ {A : Type 0} (d : A) (f : ℕ → A) where
  pub value_at : (n i : ℕ) → i < n → get_or (map f (range_with_len 0 n)) i d ≡ f i
  value_at n i l = get_or-map-range_with_len f 0 n i i d l (zero-add i)

  pub values_are : (n : ℕ) (xs : List A) → length xs ≡ n → ((i : ℕ) → i < n → get_or xs i d ≡ f i) → xs ≡ map f (range_with_len 0 n)
  values_are n xs long e =
      ext_get_or d xs (map f (range_with_len 0 n)) (long ∙ sym (length-map-range_with_len f 0 n)) (λ i l. let fits : i < n = rw (← long) l in e i fits ∙ sym (value_at n i fits))

-- ---- functions that agree on what passes a test, on a list that passes it
module _ {A B : Type 0} (t : A → Bool) (f h : A → B) (same : (x : A) → t x ≡ true → f x ≡ h x) where
  pub map_same : (l : List A) → every t l ≡ true → map f l ≡ map h l
  unfolding every
  map_same [] e = refl
  map_same (x ∷ l) e = ap₂ ◌∷◌ (same x (and_left _ _ e)) (map_same l (and_right _ _ e))

module _ {A : Type 0} (t f h : A → Bool) (same : (x : A) → t x ≡ true → f x ≡ h x) where
  pub any_same : (l : List A) → every t l ≡ true → list_any f l ≡ list_any h l
  unfolding every
  any_same [] e = refl
  any_same (x ∷ l) e = ap₂ ◌||◌ (same x (and_left _ _ e)) (any_same l (and_right _ _ e))
