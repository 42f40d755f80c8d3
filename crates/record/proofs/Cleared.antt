-- A call that no test refuses, and a number that no test returns.
use Prim.Native.Nat.{ℕ}
use mathlib.Core.Path.{◌≡◌, refl}
use mathlib.Core.Bool.{Bool, true, false, not, cond}
use mathlib.Core.List.{List, [], ◌∷◌}
use Rattle.std.specs.Prelude.{Option, Some, None}
use lib.Dec.{eqb}
use borrow.Author.Tests.{not-false}
use Rattle.grain.specs.Lists.{every}
use Rattle.grain.proofs.Tests.{and_left, and_right}
use Rattle.record.specs.Refusals.{Test, when, first, unsound}
use Rattle.record.specs.State.{Record}
use Rattle.record.specs.Sound.{is_sound}
use Rattle.record.specs.Record.{Call, Accepted, tests, refusal, answer_by}
use Rattle.record.specs.Theorems.{is_refusal}

-- none of the tests applies
abbrev pub Clear : List Test → Type 0
Clear [] = Unit {0}
Clear (t ∷ l) = (t.applies ≡ false) × Clear l

passed : (b : Bool) (n : ℕ) (o : Option ℕ) → cond b (Some n) o ≡ None → (b ≡ false) × (o ≡ None)
passed true n o e = (cc, cc)
passed false n o e = (refl, e)

pub cleared : (l : List Test) → first l ≡ None → Clear l
cleared [] e = tt
cleared (t ∷ l) e = let h = passed t.applies t.number (first l) e in (h.0, cleared l h.1)

-- an accepted call is on a sound Record, and none of its tests applies
pub accepted_clear : (r : Record) (c : Call) → refusal r c ≡ None → (is_sound r ≡ true) × Clear (tests r c)
unfolding refusal
accepted_clear r c e = let k = cleared (when (not (is_sound r)) unsound ∷ tests r c) e in (not-false _ k.0, k.1)

module _ (n : ℕ) (a : Accepted) where
  pub not_returned : (l : List Test) → every (λ t. not (eqb t.number n)) l ≡ true
      → not (is_refusal n (answer_by (first l) a)) ≡ true
  unfolding every
  not_returned [] e = refl
  not_returned (t ∷ l) e = go t.applies (not_returned l (and_right _ _ e))
    where
      go : (b : Bool) → not (is_refusal n (answer_by (first l) a)) ≡ true
          → not (is_refusal n (answer_by (cond b (Some t.number) (first l)) a)) ≡ true
      go true h = and_left _ _ e
      go false h = h
