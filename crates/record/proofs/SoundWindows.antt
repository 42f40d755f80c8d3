-- A window of at most 45 settlements that all pass a test stays one, emptied or after an end.
use Prim.Native.Nat.{ℕ, ◌-◌, ◌≤◌}
use mathlib.Core.Path.{◌≡◌, refl}
use mathlib.Core.Bool.{Bool, true, false, cond}
use mathlib.Core.List.{List, [], ◌∷◌, ◌++◌, map}
use Rattle.std.specs.Prelude.{Option, Some, None}
use native.Mathlib.Omega.{arith}
use lib.Dec.{leb, eqb}
use lib.ListN.{length, length-drop}
use borrow.Author.Tests.{le-leb}
use Rattle.grain.specs.Lists.{◌and◌, every}
use Rattle.grain.proofs.Tests.{and_left, and_right, both}
use Rattle.grain.proofs.Every.{every_append, every_drop}
use Rattle.record.specs.State.{Contract, Sheet, settlement_on}
use Rattle.record.specs.Window.{collect, window_by}

module _ (f : ℕ → Bool) where
  abbrev pub holds : List ℕ → Bool
  holds w = leb (length w) 45 and every f w

  pub holds_none : holds [] ≡ true
  unfolding ◌and◌ every
  holds_none = refl

  pub holds_emptied : (b : Bool) (w : List ℕ) → holds w ≡ true → holds (cond b [] w) ≡ true
  holds_emptied true w t = holds_none
  holds_emptied false w t = t

  holds_pushed : (w : List ℕ) (v : ℕ) → every f w ≡ true → f v ≡ true → holds (collect w (Some v)) ≡ true
  unfolding every
  holds_pushed w v t u =
      let l = w ++ (v ∷ []) in
      let short : length (collect w (Some v)) ≤ 45 = simp length-drop (omega arith) in
      both _ _ (le-leb _ _ short) (every_drop f (length l - 45) l (every_append f w (v ∷ []) t (both _ _ u refl)))

  module _ (w : List ℕ) (t : every f w ≡ true) (month : ℕ) where
    -- whether the month is on the sheet or not
    holds_collected : (s : Sheet) → every f (map (λ (c : Contract). c.settlement) s) ≡ true
        → holds (collect w (settlement_on s month)) ≡ true
    unfolding every
    holds_collected [] u = holds_none
    holds_collected (c ∷ s) u = go (eqb c.month month) (holds_collected s (and_right _ _ u))
      where
        go : (b : Bool) → holds (collect w (settlement_on s month)) ≡ true
            → holds (collect w (cond b (Some c.settlement) (settlement_on s month))) ≡ true
        go true h = holds_pushed w c.settlement t (and_left _ _ u)
        go false h = h

  pub holds_after : (w : List ℕ) (s : Sheet) (o : Option ℕ) → holds w ≡ true
      → every f (map (λ (c : Contract). c.settlement) s) ≡ true → holds (window_by w s o) ≡ true
  holds_after w s None t u = t
  holds_after w s (Some month) t u = holds_collected w (and_right _ _ t) month s u
