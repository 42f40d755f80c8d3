-- What founding promises, whatever the edition and the eight limits.
use Rattle.std.specs.Prelude.{◌≡◌, replicate, Some, None, Result, Ok, Err}
use Rattle.grain.specs.Products.{product_count}
use Rattle.grain.specs.Refusals.{number_of}
use Rattle.grain.specs.declared.refusals.Refusal.{Refusal}
use Rattle.record.specs.State.{no_day, group_count}
use Rattle.record.specs.Founding.{Start, founding_refusal, founded}
use Rattle.sheets.specs.Sheets.{empty_sheet}
use Rattle.windows.specs.Windows.{empty_windows}
use Rattle.book.specs.declared.Book.{Book}
use Rattle.book.specs.Book.{no_limit, no_standing, view}

-- zeros, of no format and so unsound: every call on it is refused with 1
unfoldable pub no_book : Book
no_book =
    record {
      format = 0;
      edition = 0;
      is_open = 0;
      day = no_day;
      limits = replicate product_count no_limit;
      standings = replicate group_count no_standing;
      windows = empty_windows;
      today = replicate product_count empty_sheet;
      last = replicate product_count empty_sheet;
    }

-- the founded Record, or the number with which the founding is refused
abbrev pub Founds : Start → Result Book Refusal → Type 0
Founds s (Ok b) = (founding_refusal s ≡ None) × (view b ≡ founded s)
Founds s (Err r) = founding_refusal s ≡ Some (number_of r)
