-- A change or a founding returns 0 where it is accepted, and nowhere else.
use Prim.Native.Nat.{ℕ}
use mathlib.Core.Path.{◌≡◌, refl, ◌∙◌, ap}
use mathlib.Core.Bool.{Bool, true, false, not}
use mathlib.Core.List.{[], ◌∷◌}
use lib.Dec.{eqb}
use Rattle.std.specs.Prelude.{Option, Some, None, is_some, unwrap_or}
use Rattle.grain.specs.Refusals.{unfit_amount}
use Rattle.record.specs.Refusals.{when, first, unknown_edition}
use Rattle.record.specs.State.{Record}
use Rattle.record.specs.Edition.{is_edition}
use Rattle.record.specs.Founding.{Start, are_fit, founding_refusal}
use Rattle.record.specs.Record.{Change, opening, sheet, end, convert, change, accepted, refusal, answer, answer_by, respond}
use Rattle.record.specs.Theorems.{is_refusal}
use Rattle.record.proofs.Proved.{theorems}
use Rattle.book.specs.Book.{view}
use Rattle.gateway.specs.Calls.{answer_number}
use Rattle.gateway.specs.Images.{ZeroAccepts}

accepted_zero : (r : Record) (c : Change) → answer_number (accepted (answer r (change c))) ≡ 0
unfolding answer
accepted_zero r (opening d) = refl
accepted_zero r (sheet p ms ss) = refl
accepted_zero r end = refl
accepted_zero r convert = refl

not_true : (b : Bool) → not b ≡ true → b ≡ false
not_true true e = cc
not_true false e = refl

zero_answer : (r : Record) (c : Change) → eqb (answer_number (respond r (change c)).answer) 0 ≡ not (is_some (refusal r (change c)))
unfolding respond
zero_answer r c = go (refusal r (change c)) (theorems.never_zero r (change c))
  where
    go : (o : Option ℕ) → not (is_refusal 0 (answer_by o (answer r (change c)))) ≡ true
        → eqb (answer_number (answer_by o (answer r (change c)))) 0 ≡ not (is_some o)
    go (Some n) t = not_true (eqb n 0) t
    go None t = ap (λ n. eqb n 0) (accepted_zero r c)

zero_founding : (s : Start) → eqb (unwrap_or (founding_refusal s) 0) 0 ≡ not (is_some (founding_refusal s))
unfolding founding_refusal
zero_founding s = go (not (is_edition s.edition)) (not (are_fit s.limits))
  where
    go : (a b : Bool) → eqb (unwrap_or (first (when a unknown_edition ∷ when b unfit_amount ∷ [])) 0) 0
        ≡ not (is_some (first (when a unknown_edition ∷ when b unfit_amount ∷ [])))
    go true b = refl
    go false true = refl
    go false false = refl

pub zero_accepts : ZeroAccepts
zero_accepts =
    record {
      changes = λ i now c n r. ap (λ n. eqb n 0) r.number ∙ zero_answer (view i.book) c;
      foundings = λ i now s n f. ap (λ n. eqb n 0) f.number ∙ zero_founding s;
    }
