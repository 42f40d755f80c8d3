-- A book that has passed the first two tests of a call on an open day: it has a day, with a trade date.
use Rattle.std.proofs.Common.{◌≡◌, sym, ◌∙◌, true}
use Rattle.std.specs.Prelude.{not, Some, None, Ok}
use borrow.Author.Tests.{not-false}
use Rattle.record.specs.declared.Day.{Day}
use Rattle.record.specs.Opening.{is_true_day}
use Rattle.record.specs.Sound.{is_sound}
use Rattle.book.specs.declared.Book.{Book}
use Rattle.book.specs.declared.dates.OpenDay.{OpenDay}
use Rattle.book.specs.Book.{is_set, opened_in, view}
use Rattle.book.specs.Phase.{phase_refusal, OffersDay}
use Rattle.book.proofs.Phases.{Passes, passed}
use Rattle.book.proofs.SoundFacts.{open_day, true_day}
use Rattle.book.proofs.Views.{open_is}

module _ (b : Book) (e : None ≡ phase_refusal true (view b)) where
  passes : Passes (view b) (not (view b).common.is_open)
  passes = passed (view b) _ (sym e)

  pub is_sound_open : is_sound (view b) ≡ true
  is_sound_open = passes.sound

  pub is_open_on : is_set b.is_open ≡ true
  is_open_on = sym (open_is b) ∙ not-false _ passes.phase

  pub has_day : opened_in b ≡ None → ⊥
  has_day none = open_day b is_sound_open is_open_on none

  pub true_on : (d : Day) → opened_in b ≡ Some d → is_true_day d ≡ true
  true_on d is = true_day b is_sound_open d is

  pub offers : (d : OpenDay) → opened_in b ≡ Some d.day → OffersDay b (Ok d)
  offers d is = record { refusal = e; day = λ x ok. let same : d ≡ x = cc in rw (← same) is }
