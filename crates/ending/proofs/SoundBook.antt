-- What the search asks of a sound book.
use mathlib.Core.Path.{◌≡◌}
use mathlib.Core.Bool.{true}
use Rattle.record.specs.Sound.{is_sound}
use Rattle.book.specs.declared.Book.{Book}
use Rattle.book.specs.Book.{view}
use Rattle.book.proofs.SoundFacts.{today_fits, last_fits, today_ascending}
use Rattle.ending.specs.Lead.{Readable}

module _ (b : Book) (sound : is_sound (view b) ≡ true) where
  pub readable : Readable b
  readable = record { today = today_fits b sound; last = last_fits b sound; ascending = today_ascending b sound }
