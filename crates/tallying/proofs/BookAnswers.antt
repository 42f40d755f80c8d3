-- No book answers 15: every answer of the Record to a check is counted.
use Prim.Native.Nat.{ℕ}
use mathlib.Core.Path.{◌≡◌, refl}
use mathlib.Core.Bool.{false, not}
use mathlib.Core.List.{◌∷◌}
use borrow.Author.Tests.{not-true}
use Rattle.grain.specs.Lists.{◌and◌, every}
use Rattle.record.specs.Refusals.{when, unsound}
use Rattle.record.specs.Sound.{is_sound}
use Rattle.record.specs.Record.{check, question, tests, refusal, answer, respond}
use Rattle.record.specs.Theorems.{is_refusal}
use Rattle.record.proofs.Cleared.{not_returned}
use Rattle.record.proofs.TestNumbers.{other_tests}
use Rattle.book.specs.declared.Book.{Book}
use Rattle.book.specs.Book.{view}
use Rattle.tally.specs.Tally.{tally_full}
use Rattle.checking.specs.Checks.{book_answer}

pub book-counted : (b : Book) (p size month price : ℕ) → is_refusal tally_full (book_answer b p size month price) ≡ false
unfolding respond refusal every ◌and◌
book-counted b p size month price =
    not-true _
    (not_returned tally_full (answer (view b) (question (check p size month price)))
    (when (not (is_sound (view b))) unsound ∷ tests (view b) (question (check p size month price)))
    (other_tests tally_full refl (view b) (question (check p size month price))))
