-- A check by its terms: refused with their number, or what the month and price get on them.
use Prim.Native.Nat.{ℕ}
use mathlib.Core.Path.{◌≡◌, refl, ap}
use mathlib.Core.Bool.{Bool, true, false, not, cond}
use mathlib.Core.List.{List, [], ◌∷◌, ◌++◌}
use Rattle.std.specs.Prelude.{Option, Some, None}
use Rattle.record.specs.Refusals.{Test, when, first, unsound}
use Rattle.record.specs.State.{Record}
use Rattle.record.specs.Check.{terms_tests, order_tests, judged}
use Rattle.record.specs.Sound.{is_sound}
use Rattle.record.specs.Record.{check, question, checked, refused, terms_in, tests, refusal, terms_refusal, answer, answer_by, order_answer, respond, ask}

-- the first of two rows of tests
first_before : (l m : List Test) (n : ℕ) → first l ≡ Some n → first (l ++ m) ≡ Some n
first_before [] m n e = let z : ◌≡◌ {A = Option ℕ} None (Some n) = e in cc
first_before (t ∷ l) m n e = go t.applies (first_before l m n) e
  where
    go : (b : Bool) → (first l ≡ Some n → first (l ++ m) ≡ Some n)
        → cond b (Some t.number) (first l) ≡ Some n → cond b (Some t.number) (first (l ++ m)) ≡ Some n
    go true later h = h
    go false later h = later h

first-after : (l m : List Test) → first l ≡ None → first (l ++ m) ≡ first m
first-after [] m e = refl
first-after (t ∷ l) m e = go t.applies (first-after l m) e
  where
    go : (b : Bool) → (first l ≡ None → first (l ++ m) ≡ first m)
        → cond b (Some t.number) (first l) ≡ None → cond b (Some t.number) (first (l ++ m)) ≡ first m
    go true later h = let z : ◌≡◌ {A = Option ℕ} (Some t.number) None = h in cc
    go false later h = later h

module _ (r : Record) (p size month price : ℕ) where
  pub refused_terms : (n : ℕ) → terms_refusal r p size ≡ Some n → ask r (check p size month price) ≡ refused n
  unfolding terms_refusal refusal tests respond
  refused_terms n e =
      ap (λ (o : Option ℕ). answer_by o (answer r (question (check p size month price))))
      (first_before (when (not (is_sound r)) unsound ∷ terms_tests r.common p size) (order_tests (terms_in r p size) month price) n e)

  past_terms : terms_refusal r p size ≡ None → refusal r (question (check p size month price)) ≡ first (order_tests (terms_in r p size) month price)
  unfolding terms_refusal refusal tests
  past_terms e =
      first-after (when (not (is_sound r)) unsound ∷ terms_tests r.common p size) (order_tests (terms_in r p size) month price) e

  pub on_terms : terms_refusal r p size ≡ None → ask r (check p size month price) ≡ order_answer (terms_in r p size) month price
  unfolding respond answer
  on_terms e = ap (λ (o : Option ℕ). answer_by o (checked (judged (terms_in r p size) month price))) (past_terms e)
