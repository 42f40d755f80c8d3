-- One more element of a list that is read from the front, and none left.
use Prim.Native.Nat.{ℕ, ◌+◌, ◌<◌, ◌≤◌}
use mathlib.Core.Path.{◌≡◌, ◌∙◌, ap}
use mathlib.Core.Bool.{Bool, true, false}
use mathlib.Core.List.{List, ◌∷◌}
use native.Mathlib.Numerals.{add-one}
use lib.ListN.{length, get_or, drop, drop_of_length-le}
use lib.Seq.{drop-cons}
use Rattle.grain.specs.Lists.{◌and◌, every}

pub drop-next : (xs : List ℕ) (i : ℕ) → i < length xs → drop i xs ≡ get_or xs i 0 ∷ drop (i + 1) xs
drop-next xs i l = rw (add-one, drop-cons xs i 0)

module _ (f : ℕ → Bool) (xs : List ℕ) (i : ℕ) (l : i < length xs) where
  every_next : every f (drop i xs) ≡ f (get_or xs i 0) and every f (drop (i + 1) xs)
  unfolding every
  every_next = ap (every f) (drop-next xs i l)

  pub every_fails : f (get_or xs i 0) ≡ false → every f (drop i xs) ≡ false
  unfolding ◌and◌
  every_fails e = every_next ∙ rw e

  pub every_goes_on : f (get_or xs i 0) ≡ true → every f (drop i xs) ≡ every f (drop (i + 1) xs)
  unfolding ◌and◌
  every_goes_on e = every_next ∙ rw e

pub every_end : (f : ℕ → Bool) (xs : List ℕ) (i : ℕ) → length xs ≤ i → every f (drop i xs) ≡ true
unfolding every
every_end f xs i l = ap (every f) (drop_of_length-le xs l)
