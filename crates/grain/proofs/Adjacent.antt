-- That each element is below the next, as `is_sorted_by` answers it.
use Rattle.std.proofs.Common.{◌≡◌, refl, sym, ℕ, zero, suc, ◌<◌, Bool, true, false, List, [], ◌∷◌, ◌&&◌, map, length, get_or, ltb, arith, add-one}
use Rattle.std.specs.List.{IsAllAdjacentAnswer}
use Rattle.grain.specs.Lists.{is_ascending}

module _ {A : Type 0} (of : A → ℕ) where
  abbrev below : A → A → Bool
  below a b = ltb (of a) (of b)

  all_below : (l : List A) → ((k : ℕ) (d : A) → suc k < length l → true ≡ below (get_or l k d) (get_or l (suc k) d))
      → true ≡ is_ascending (map of l)
  unfolding is_ascending
  all_below [] h = refl
  all_below (a ∷ []) h = refl
  all_below (a ∷ b ∷ l) h = rw (sym (h 0 a (omega arith))) (all_below (b ∷ l) (λ k d m. h (suc k) d (omega arith)))

  one_not_below : (l : List A) (k : ℕ) → suc k < length l → ((d : A) → false ≡ below (get_or l k d) (get_or l (suc k) d))
      → false ≡ is_ascending (map of l)
  unfolding is_ascending
  one_not_below [] k m h = absurd (omega arith)
  one_not_below (a ∷ []) k m h = absurd (omega arith)
  one_not_below (a ∷ b ∷ l) zero m h = rw (sym (h a))
  one_not_below (a ∷ b ∷ l) (suc k) m h = go (below a b) (one_not_below (b ∷ l) k (omega arith) h)
    where
      go : {r : Bool} (b : Bool) → false ≡ r → false ≡ (b && r)
      go true e = e
      go false e = refl

  pub ascending_from_adjacent : (l : List A) (r : Bool) → IsAllAdjacentAnswer (λ x y b. b ≡ below x y) l r → r ≡ is_ascending (map of l)
  ascending_from_adjacent l true h = all_below l (λ k d m. rw add-one at (h k d (omega arith)))
  ascending_from_adjacent l false h = one_not_below l h.0 (omega (arith, h.1)) (λ d. rw add-one at (h.2 d))
