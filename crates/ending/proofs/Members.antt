-- The members of a list: tests that one of them passes, and the members of joined lists.
use Prim.Native.Nat.{ℕ, zero, suc, ◌+◌, ◌-◌, ◌≤◌, ◌<◌}
use mathlib.Core.Path.{◌≡◌, refl, subst, ◌∙◌, ap}
use mathlib.Core.Bool.{Bool, true, false, ◌||◌, false≢true}
use mathlib.Core.List.{List, [], ◌∷◌, ◌++◌}
use mathlib.Core.Logic.{◌⊎◌, inl, inr, ⊎_elim}
use native.Mathlib.Nat.{le_of_suc-le-suc, not-suc-le-zero}
use native.Mathlib.Omega.{arith}
use lib.ListN.{length, take, drop, get_or, length-take, length-drop}
use Rattle.std.specs.List.{list_any}
use Rattle.std.proofs.lemmas.List.{get_or-take, get_or-drop}

or_true : (b : Bool) → b || true ≡ true
or_true true = refl
or_true false = refl

module _ {A : Type 0} where
  abbrev pub Member : A → List A → Type 0
  Member v [] = ⊥
  Member v (w ∷ l) = (v ≡ w) ⊎ Member v l

  pub member_any : (h : A → Bool) (v : A) (l : List A) → Member v l → h v ≡ true → list_any h l ≡ true
  member_any h v [] d e = absurd d
  member_any h v (w ∷ l) d e = go (member_any h v l)
    where
      go : (Member v l → h v ≡ true → list_any h l ≡ true) → h w || list_any h l ≡ true
      go later = ⊎_elim (λ same. subst (λ (x : A). h x || list_any h l ≡ true) same (rw e)) (λ k. rw (later k e) (or_true (h w))) d

  -- a test that one of the list passes has a member that passes it
  pub any_member : (P : Type 0) (h : A → Bool) (l : List A) → list_any h l ≡ true → ((v : A) → Member v l → h v ≡ true → P) → P
  any_member P h [] e found = absurd (false≢true e)
  any_member P h (w ∷ l) e found = go (h w) refl (any_member P h l)
    where
      go : (x : Bool) → h w ≡ x → (list_any h l ≡ true → ((v : A) → Member v l → h v ≡ true → P) → P) → P
      go true q later = found w (inl refl) q
      go false q later = later (rw q at e) (λ v k. found v (inr k))

  pub member_left : (v : A) (l r : List A) → Member v l → Member v (l ++ r)
  member_left v [] r d = absurd d
  member_left v (w ∷ l) r d = ⊎_elim (λ same. inl same) (λ k. inr (member_left v l r k)) d

  pub member_right : (v : A) (l r : List A) → Member v r → Member v (l ++ r)
  member_right v [] r d = d
  member_right v (w ∷ l) r d = inr (member_right v l r d)

  pub member_either : (P : Type 0) (v : A) (l r : List A) → Member v (l ++ r) → (Member v l → P) → (Member v r → P) → P
  member_either P v [] r d one other = other d
  member_either P v (w ∷ l) r d one other =
      ⊎_elim (λ same. one (inl same)) (λ k. member_either P v l r k (λ j. one (inr j)) other) d

  member_at : (l : List A) (i : ℕ) (d : A) → i < length l → Member (get_or l i d) l
  member_at [] i d h = absurd (not-suc-le-zero h)
  member_at (x ∷ l) zero d h = inl refl
  member_at (x ∷ l) (suc i) d h = inr (member_at l i d (le_of_suc-le-suc h))

  -- an element from place lo on and before hi
  pub member_between : (l : List A) (lo hi p : ℕ) (d : A) → p < length l → lo ≤ p → p < hi → Member (get_or l p d) (take (hi - lo) (drop lo l))
  member_between l lo hi p d in_list k h =
      let part : List A = take (hi - lo) (drop lo l) in
      let place : lo + (p - lo) ≡ p = omega arith in
      let inside : p - lo < hi - lo = omega arith in
      let fits : p - lo < length part = rw (length-take (hi - lo) (drop lo l), length-drop lo l) (omega arith) in
      let same : get_or part (p - lo) d ≡ get_or l p d =
      get_or-take (hi - lo) (drop lo l) (p - lo) d inside ∙ get_or-drop lo l (p - lo) d ∙ ap (λ (i : ℕ). get_or l i d) place in
      subst (λ (x : A). Member x part) same (member_at part (p - lo) d fits)
