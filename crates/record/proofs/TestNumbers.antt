-- Which numbers a call's tests after 1 have, and that no refusal has another: none has 0.
use Prim.Native.Nat.{ℕ}
use mathlib.Core.Path.{◌≡◌, refl, sym, ◌∙◌}
use mathlib.Core.Bool.{Bool, true, false, not}
use mathlib.Core.List.{List, [], ◌∷◌}
use lib.Dec.{eqb}
use borrow.Author.Tests.{eqb-true}
use Rattle.grain.specs.Lists.{◌and◌, every, is_in}
use Rattle.grain.proofs.Tests.{and_left, and_right, both}
use Rattle.record.specs.Refusals.{Test, when, unsound}
use Rattle.record.specs.State.{Record}
use Rattle.record.specs.Sound.{is_sound}
use Rattle.record.specs.Theorems.{is_refusal}
use Rattle.record.proofs.Cleared.{not_returned}
use Rattle.record.specs.Opening.{opening_tests}
use Rattle.record.specs.Sheet.{sheet_tests}
use Rattle.record.specs.Check.{terms_tests, order_tests}
use Rattle.record.specs.Conversion.{conversion_tests}
use Rattle.record.specs.Record.{opening, sheet, end, convert, check, Call, change, question, tests, refusal, answer, respond}

abbrev pub later_numbers : List ℕ
later_numbers = 2 ∷ 3 ∷ 4 ∷ 5 ∷ 6 ∷ 7 ∷ 8 ∷ 9 ∷ 10 ∷ 11 ∷ 12 ∷ 14 ∷ 16 ∷ 18 ∷ []

abbrev is_later : Test → Bool
is_later t = is_in t.number later_numbers

later_tests : (r : Record) (c : Call) → every is_later (tests r c) ≡ true
unfolding ◌and◌ every tests opening_tests sheet_tests conversion_tests terms_tests order_tests
later_tests r (change (opening d)) = refl
later_tests r (change (sheet p ms ss)) = refl
later_tests r (change end) = refl
later_tests r (change convert) = refl
later_tests r (question (check p size month price)) = refl

module _ (n : ℕ) (none : is_in n later_numbers ≡ false) where
  is_other : (t : Test) → is_later t ≡ true → not (eqb t.number n) ≡ true
  is_other t later = go (eqb t.number n) refl
    where
      go : (b : Bool) → eqb t.number n ≡ b → not b ≡ true
      go false e = refl
      go true e = let z : ◌≡◌ {A = Bool} true false = sym (rw (eqb-true t.number n e) at later) ∙ none in cc

  are_others : (l : List Test) → every is_later l ≡ true → every (λ t. not (eqb t.number n)) l ≡ true
  unfolding every
  are_others [] e = refl
  are_others (t ∷ l) e = both _ _ (is_other t (and_left _ _ e)) (are_others l (and_right _ _ e))

  pub other_tests : (r : Record) (c : Call) → every (λ t. not (eqb t.number n)) (tests r c) ≡ true
  other_tests r c = are_others (tests r c) (later_tests r c)

pub never_zero_lem : (r : Record) (c : Call) → not (is_refusal 0 (respond r c).answer) ≡ true
unfolding ◌and◌ every respond refusal
never_zero_lem r c = not_returned 0 (answer r c) (when (not (is_sound r)) unsound ∷ tests r c) (other_tests 0 refl r c)
