-- A struct that is no book of this format, or has a flag that is none, is unsound, so that every call on it is refused with 1.
use mathlib.Core.Path.{◌≡◌}
use mathlib.Core.Bool.{false}
use Rattle.grain.specs.Lists.{◌and◌}
use Rattle.record.specs.Refusals.{unsound}
use Rattle.record.specs.Sound.{is_sound}
use Rattle.record.specs.Record.{Call, change, question, refused, refusal, respond}
use Rattle.book.specs.declared.Book.{Book}
use Rattle.book.specs.Book.{is_book, edition_in, view_common, view}

module _ (b : Book) (no : is_book b ≡ false) where
  pub no_book-unsound : is_sound (view b) ≡ false
  unfolding is_sound ◌and◌ view view_common edition_in
  no_book-unsound = rw no

  pub no_book_refuses : (c : Call) → respond (view b) c ≡ record { state = view b; answer = refused unsound }
  unfolding respond refusal
  no_book_refuses (change c) = rw no_book-unsound
  no_book_refuses (question q) = rw no_book-unsound
