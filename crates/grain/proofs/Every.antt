-- A test that every element passes, of a mapped, a joined and a cut list, and one that any or none passes.
use Prim.Native.Nat.{ℕ, zero, suc}
use mathlib.Core.Path.{◌≡◌, refl, ap₂}
use mathlib.Core.Bool.{Bool, true, false, ◌||◌}
use mathlib.Core.List.{List, [], ◌∷◌, ◌++◌, map}
use lib.ListN.{drop}
use Rattle.std.specs.List.{list_any}
use Rattle.grain.specs.Lists.{◌and◌, every}
use Rattle.grain.proofs.Tests.{and_left, and_right, both, neither}

module _ {A B : Type 0} (f : A → Bool) (g : A → B) (h : B → Bool) where
  pub every_map : ((x : A) → f x ≡ true → h (g x) ≡ true) → (l : List A) → every f l ≡ true → every h (map g l) ≡ true
  unfolding every
  every_map e [] t = refl
  every_map e (x ∷ l) t = both _ _ (e x (and_left _ _ t)) (every_map e l (and_right _ _ t))

  pub every_mapped : ((x : A) → h (g x) ≡ f x) → (l : List A) → every h (map g l) ≡ every f l
  unfolding every
  every_mapped e [] = refl
  every_mapped e (x ∷ l) = ap₂ ◌and◌ (e x) (every_mapped e l)

  pub any_mapped : ((x : A) → h (g x) ≡ f x) → (l : List A) → list_any h (map g l) ≡ list_any f l
  any_mapped e [] = refl
  any_mapped e (x ∷ l) = ap₂ ◌||◌ (e x) (any_mapped e l)

  pub every_unless : ((x : A) → f x ≡ false → h (g x) ≡ true) → (l : List A) → list_any f l ≡ false → every h (map g l) ≡ true
  unfolding every
  every_unless e [] t = refl
  every_unless e (x ∷ l) t = let n = neither (f x) (list_any f l) t in both _ _ (e x n.0) (every_unless e l n.1)

module _ {A : Type 0} (f : A → Bool) where
  pub every_append : (l m : List A) → every f l ≡ true → every f m ≡ true → every f (l ++ m) ≡ true
  unfolding every
  every_append [] m s t = t
  every_append (x ∷ l) m s t = both _ _ (and_left _ _ s) (every_append l m (and_right _ _ s) t)

  pub every_drop : (n : ℕ) (l : List A) → every f l ≡ true → every f (drop n l) ≡ true
  unfolding every
  every_drop zero l t = t
  every_drop (suc n) [] t = refl
  every_drop (suc n) (x ∷ l) t = every_drop n l (and_right _ _ t)
