-- A list of calls with one more at its end.
use Rattle.std.proofs.Common.{◌≡◌, ◌∙◌, ap, ℕ, ◌+◌, ◌<◌, length, map, take, List, [], ◌∷◌, ◌++◌, slice_set, slice_index_or}
use Rattle.std.proofs.lemmas.List.{map-append, map_more, take_more_set}
use Rattle.history.specs.Trace.{Trace, done, more}

set_more : {X Y : Type 0} (f : X → Y) (xs : List X) (i : ℕ) (x : X) → i < length xs
    → map f (take (i + 1) (slice_set xs i x)) ≡ map f (take i xs) ++ f x ∷ []
set_more f xs i x h = ap (map f) (take_more_set xs i x h) ∙ map-append f (take i xs) (x ∷ [])

module _ {S C A : Type 0} {Step : S → C → A → S → Type 0} where
  at_end : {s t z : S} {cs : List C} {l : List A} {c : C} {a : A}
      → Trace Step s cs l t → Step t c a z → Trace Step s (cs ++ c ∷ []) (l ++ a ∷ []) z
  at_end done last = more last done
  at_end (more first rest) last = more first (at_end rest last)

  -- the i-th of xs is called, and y, in the i-th place of ys, is what it answers
  pub one_more : {X Y : Type 0} (f : X → C) (g : Y → A) {s t z : S} (xs : List X) (ys : List Y) (i : ℕ) (d : X) (y : Y)
      → i < length xs → i < length ys → Trace Step s (map f (take i xs)) (map g (take i ys)) t
      → Step t (f (slice_index_or xs i d)) (g y) z → Trace Step s (map f (take (i + 1) xs)) (map g (take (i + 1) (slice_set ys i y))) z
  one_more f g xs ys i d y h k trace step = rw (map_more f xs i d h, set_more g ys i y k) (at_end trace step)
