-- The first two tests of a call on a book, and the open day.
use Rattle.std.specs.Prelude.{ℕ, ◌≡◌, Bool, true, false, not, [], ◌∷◌, Option, Some, Result}
use Rattle.std.specs.Result.{ForOk}
use Rattle.grain.specs.declared.refusals.Refusal.{Refusal}
use Rattle.record.specs.Refusals.{when, wrong_phase}
use Rattle.record.specs.State.{Record}
use Rattle.record.specs.Record.{refusal_by}
use Rattle.book.specs.declared.Book.{Book}
use Rattle.book.specs.declared.dates.OpenDay.{OpenDay}
use Rattle.book.specs.Book.{opened_in, view}
use Rattle.book.specs.Calls.{refusal_in}

-- 1, and 2 where no day is open and the call asks for one, or one is and the call asks for none
abbrev pub phase_refusal : Bool → Record → Option ℕ
phase_refusal true r = refusal_by r (when (not r.common.is_open) wrong_phase ∷ [])
phase_refusal false r = refusal_by r (when r.common.is_open wrong_phase ∷ [])

-- 1, 2 or the open day, whose trade date it carries
pub record OffersDay (b : Book) (r : Result OpenDay Refusal) : Type 0 where
  pub refusal : refusal_in r ≡ phase_refusal true (view b)
  pub day : ForOk r (λ d. opened_in b ≡ Some d.day)
