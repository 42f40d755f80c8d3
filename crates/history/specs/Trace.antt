-- A list of calls, each on the state that the one before left: of books, of images, and of whatever else has a relation for one call.
use Rattle.std.specs.Prelude.{List, [], ◌∷◌}

pub data Trace {S C A : Type 0} (Step : S → C → A → S → Type 0) : S → List C → List A → S → Type 0 where
  done : {s : S} → Trace Step s [] [] s
  more : {s t z : S} {c : C} {a : A} {cs : List C} {l : List A}
      → Step s c a t → Trace Step t cs l z → Trace Step s (c ∷ cs) (a ∷ l) z
