-- A map of a map, and a map that changes nothing.
use mathlib.Core.Path.{◌≡◌, refl, ap₂}
use mathlib.Core.List.{List, [], ◌∷◌, map}

module _ {A B C : Type 0} (f : B → C) (g : A → B) (h : A → C) (e : (x : A) → f (g x) ≡ h x) where
  pub map-map : (l : List A) → map f (map g l) ≡ map h l
  map-map [] = refl
  map-map (x ∷ l) = ap₂ ◌∷◌ (e x) (map-map l)

module _ {A : Type 0} (f : A → A) (e : (x : A) → f x ≡ x) where
  pub map_same : (l : List A) → map f l ≡ l
  map_same [] = refl
  map_same (x ∷ l) = ap₂ ◌∷◌ (e x) (map_same l)
