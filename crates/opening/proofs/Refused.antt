-- What refuses an opening: 1 and 2 first, and past them the tests of its dates.
use Rattle.std.proofs.Common.{ℕ, ◌≡◌, sym, false, List, [], ◌∷◌}
use Rattle.std.specs.Prelude.{not, Option, Some, None}
use Rattle.grain.specs.Refusals.{no_such_date}
use Rattle.record.specs.declared.Day.{Day}
use Rattle.record.specs.Refusals.{Test, when, first, not_later, left_not_smaller}
use Rattle.record.specs.Opening.{is_true_day, is_not_later, is_left_not_smaller, opening_tests}
use Rattle.record.specs.Record.{opening, change, tests, refusal}
use Rattle.book.specs.declared.Book.{Book}
use Rattle.book.specs.Book.{is_set, opened_in, view_common, view}
use Rattle.book.specs.Phase.{phase_refusal}
use Rattle.book.proofs.Phases.{refused_early, decided_late}

-- the tests of the dates, after 1 and 2
abbrev pub date_tests : Option Day → Day → List Test
date_tests last d =
    when (not (is_true_day d)) no_such_date
    ∷ when (is_not_later last d) not_later
    ∷ when (is_left_not_smaller last d) left_not_smaller
    ∷ []

module _ (b : Book) (d : Day) where
  pub early_opening : (n : ℕ) → Some n ≡ phase_refusal false (view b) → Some n ≡ refusal (view b) (change (opening d))
  unfolding refusal tests opening_tests view view_common
  early_opening n e = sym (refused_early (view b) (is_set b.is_open) n (date_tests (opened_in b) d) (sym e))

  pub late_opening : None ≡ phase_refusal false (view b) → refusal (view b) (change (opening d)) ≡ first (date_tests (opened_in b) d)
  unfolding refusal tests opening_tests view view_common
  late_opening e = decided_late (view b) (is_set b.is_open) (date_tests (opened_in b) d) (sym e)
