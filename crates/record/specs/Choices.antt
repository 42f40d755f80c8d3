-- Choices over lists.
use Rattle.std.specs.Prelude.{Bool, cond, List, [], ◌∷◌, ◌++◌}

module _ {A : Type 0} where
  -- those of the list that pass the test
  abbrev pub keep : (A → Bool) → List A → List A
  keep f [] = []
  keep f (a ∷ l) = let r = keep f l in cond (f a) (a ∷ r) r

module _ {A B : Type 0} where
  abbrev pub concat_map : (A → List B) → List A → List B
  concat_map f [] = []
  concat_map f (a ∷ l) = f a ++ concat_map f l
