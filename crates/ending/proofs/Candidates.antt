-- The candidates among a product's moves: each is one of the moves, and whether there is one of a month.
use Prim.Native.Nat.{ℕ}
use mathlib.Core.Path.{◌≡◌, refl, ap, ◌∙◌}
use mathlib.Core.Bool.{Bool, true, false, ◌&&◌, cond}
use mathlib.Core.List.{List, [], ◌∷◌}
use mathlib.Core.Logic.{inl, inr, ⊎_elim}
use lib.Dec.{eqb}
use Rattle.std.specs.List.{list_any}
use Rattle.record.specs.Choices.{keep}
use Rattle.record.specs.Move.{Move}
use Rattle.ending.specs.declared.lead.condition.Condition.{Condition}
use Rattle.ending.specs.Lead.{meets, suffice, candidates}
use Rattle.std.proofs.Math.Bool.{and-true, and-false}
use Rattle.ending.proofs.Members.{Member}
use Rattle.ending.proofs.MovesIn.{has_move}

-- a move is of month m
abbrev pub is_of : ℕ → Move → Bool
is_of m v = eqb v.month m

module _ (g : Move → Bool) where
  kept : (v : Move) (ms : List Move) → Member v (keep g ms) → Member v ms
  kept v [] d = d
  kept v (w ∷ ms) d = go (g w) d (kept v ms)
    where
      go : (x : Bool) → Member v (cond x (w ∷ keep g ms) (keep g ms)) → (Member v (keep g ms) → Member v ms) → Member v (w ∷ ms)
      go true d later = ⊎_elim (λ same. inl same) (λ k. inr (later k)) d
      go false d later = inr (later d)

  kept-month : (m : ℕ) (ms : List Move) → list_any (is_of m) (keep g ms) ≡ has_move g m ms
  kept-month m [] = refl
  kept-month m (v ∷ ms) = go (g v) refl (kept-month m ms)
    where
      go : (x : Bool) → g v ≡ x → list_any (is_of m) (keep g ms) ≡ has_move g m ms → list_any (is_of m) (keep g (v ∷ ms)) ≡ has_move g m (v ∷ ms)
      go true e later = rw (e, later, and-true (is_of m v))
      go false e later = rw (e, later, and-false (is_of m v))

pub candidate_moves : (condition : Condition) (v : Move) (ms : List Move) → Member v (candidates condition ms) → Member v ms
candidate_moves condition v ms = go (suffice condition (keep (meets condition) ms))
  where
    go : (x : Bool) → Member v (cond x (keep (meets condition) ms) []) → Member v ms
    go true d = kept (meets condition) v ms d
    go false d = absurd d

pub candidates-month : (condition : Condition) (m : ℕ) (ms : List Move)
    → list_any (is_of m) (candidates condition ms) ≡ suffice condition (keep (meets condition) ms) && has_move (meets condition) m ms
candidates-month condition m ms =
    go (suffice condition (keep (meets condition) ms)) (keep (meets condition) ms)
    ∙ ap (suffice condition (keep (meets condition) ms) &&◌) (kept-month (meets condition) m ms)
  where
    go : (x : Bool) (l : List Move) → list_any (is_of m) (cond x l []) ≡ x && list_any (is_of m) l
    go true l = refl
    go false l = refl
