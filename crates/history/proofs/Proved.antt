-- The theorem over whole lists of calls, proved.
use Rattle.std.proofs.Common.{◌≡◌, ap, sym, ◌∙◌, ℕ, true, not, cond, List, ◌++◌, None, Result, Ok, Err}
use Rattle.std.specs.List.{list_any}
use Rattle.grain.specs.Refusals.{number_of}
use Rattle.grain.specs.declared.refusals.Refusal.{Refusal}
use Rattle.grain.proofs.RefusalNumbers.{refusal_numbered, numbered_back}
use Rattle.grain.specs.Lists.{every}
use Rattle.grain.specs.Check.{is_within}
use Rattle.grain.specs.declared.check.Verdict.{Verdict}
use Rattle.grain.specs.declared.check.Verdict.TheVariants.{Free}
use Rattle.record.specs.Refusals.{unsound}
use Rattle.record.specs.State.{Record, group_of, group_at}
use Rattle.record.specs.Founding.{Start, founding_refusal, founded}
use Rattle.record.specs.Record.{Call, Answer, state_after, answers}
use Rattle.record.specs.History.{kept, SameFor}
use Rattle.record.specs.Theorems.{after, history_of, is_refusal, has_raised, is_conversion, BetweenLimits}
use Rattle.record.proofs.Proved.{theorems}
use Rattle.book.specs.declared.Book.{Book}
use Rattle.book.specs.Book.{view}
use Rattle.checking.specs.Checks.{checked_as, book_answer, Checks}
use Rattle.history.specs.Whole.{Run, WholeHistory}
use Rattle.history.proofs.Agrees as agrees
use Rattle.history.proofs.Follows.{answered, contents}

-- ---- one list
module _ (s : Start) (cs : List Call) (rs : List Answer) (z : Book) (run : Run s cs rs z) where
  is_founded : founding_refusal s ≡ None
  is_founded = run.founds.0

  fresh_is : view run.fresh ≡ founded s
  fresh_is = run.founds.1

  answers_are : rs ≡ answers (founded s) cs
  answers_are = answered run.trace ∙ ap (λ (r : Record). answers r cs) fresh_is

  contents_are : view z ≡ after s cs
  contents_are = contents run.trace ∙ ap (λ (r : Record). state_after r cs) fresh_is

  history_is : kept cs rs ≡ history_of s cs
  history_is = ap (kept cs) answers_are

  never_unsound_lem : every (λ a. not (is_refusal unsound a)) rs ≡ true
  never_unsound_lem = ap (every (λ a. not (is_refusal unsound a))) answers_are ∙ theorems.never_unsound s is_founded cs

  edition_is : z.edition ≡ (after s cs).common.edition
  edition_is = (agrees.compared s cs z contents_are is_founded).edition

  edition_after_lem : z.edition ≡ cond (list_any is_conversion (kept cs rs)) 2023 s.edition
  edition_after_lem =
      edition_is ∙ theorems.edition_after s cs ∙ ap (λ es. cond (list_any is_conversion es) 2023 s.edition) (sym history_is)

  never_raised_lem : z.edition ≡ 2014 → every (λ a. not (has_raised a)) rs ≡ true
  never_raised_lem e =
      ap (every (λ a. not (has_raised a))) answers_are ∙ theorems.never_raised s is_founded cs (sym edition_is ∙ e)

coupled : (s : Start) (cs : List Call) (rs : List Answer) (z : Book) → Run s cs rs z
    → (p q i j m n x y : ℕ) (v w : Verdict) → group_of p ≡ group_of q
    → BetweenLimits (view z) p m x → BetweenLimits (view z) q n y
    → Checks z p i m x (Ok v) → Checks z q j n y (Ok w) → is_within v ≡ is_within w
coupled s cs rs z run p q i j m n x y v w e a b h k =
    agrees.coupled s cs z (contents_are s cs rs z run) p q i j m n x y v w e a b (sym h) (sym k)

stays_free : (s : Start) (cs ds : List Call) (rs ts : List Answer) (y z : Book) → Run s cs rs y → Run s (cs ++ ds) ts z
    → (p q i j month x w : ℕ) (v : Verdict) → Checks y p i month x (Ok Free) → Checks z q j month w (Ok v) → v ≡ Free
stays_free s cs ds rs ts y z one other p q i j month x w v h k =
    agrees.stays_free s cs ds y z (contents_are s cs rs y one) (contents_are s (cs ++ ds) ts z other) p q i j month x w v
    (sym h) (sym k)

-- ---- two lists
-- two checks that answer the same have the same result
checked_same : (r s : Result Verdict Refusal) → checked_as r ≡ checked_as s → r ≡ s
checked_same (Ok v) (Ok w) e = let same : v ≡ w = cc in ap Ok same
checked_same (Ok v) (Err s) e = cc
checked_same (Err r) (Ok w) e = cc
checked_same (Err r) (Err s) e =
    let same : number_of r ≡ number_of s = cc in
    ap Err (sym (numbered_back r) ∙ ap refusal_numbered same ∙ numbered_back s)

module _ (s : Start) (g : ℕ) (cs ds : List Call) (rs ts : List Answer) (y z : Book)
    (one : Run s cs rs y) (other : Run s ds ts z) (same : SameFor g (kept cs rs) (kept ds ts)) where
  histories : SameFor g (history_of s cs) (history_of s ds)
  histories = rw (← (history_is s cs rs y one), ← (history_is s ds ts z other)) same

  same_day : (view y).common ≡ (view z).common
  same_day = agrees.same_day s g cs ds y z (contents_are s cs rs y one) (contents_are s ds ts z other) histories

  same_group : group_at (view y) g ≡ group_at (view z) g
  same_group = agrees.same_group s g cs ds y z (contents_are s cs rs y one) (contents_are s ds ts z other) histories

  same_answers : (p size month price : ℕ) → group_of p ≡ g → book_answer y p size month price ≡ book_answer z p size month price
  same_answers p size month price e =
      agrees.same_checks s g cs ds y z (contents_are s cs rs y one) (contents_are s ds ts z other) histories (is_founded s cs rs y one) p size month price e

  same_checks : (p size month price : ℕ) (v w : Result Verdict Refusal) → group_of p ≡ g
      → Checks y p size month price v → Checks z p size month price w → v ≡ w
  same_checks p size month price v w e h k = checked_same v w (h ∙ same_answers p size month price e ∙ sym k)

pub whole_history : WholeHistory
whole_history =
    record {
      answered = answers_are;
      contents = contents_are;
      compared = λ s cs rs z run. agrees.compared s cs z (contents_are s cs rs z run) (is_founded s cs rs z run);
      never_unsound = never_unsound_lem;
      edition_after = edition_after_lem;
      never_raised = never_raised_lem;
      together = λ s cs rs z run. agrees.together s cs z (contents_are s cs rs z run);
      coupled = coupled;
      resent =
          λ s cs rs z run p size month price v allowed h.
          agrees.resent s cs z (contents_are s cs rs z run) p size month price v allowed (sym h);
      stays_free = stays_free;
      same_day = same_day;
      same_group = same_group;
      same_answers = same_answers;
      same_checks = same_checks;
    }
