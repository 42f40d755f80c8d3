-- What the soundness test asks of a product's limits and settlements, of a row of sheets and of one group.
-- For the functions inside, but for are_all_in, which the end of a day asks: what the test promises is the Record's is_sound alone.
use Rattle.std.specs.Prelude.{ℕ, Bool, not, ◌&&◌, ◌||◌, List, leb, eqb, length, Option, is_some}
use Rattle.std.specs.List.{list_all}
use Rattle.grain.specs.Lists.{◌and◌, every}
use Rattle.grain.specs.Prices.{is_settlement}
use Rattle.grain.specs.Amounts.{window_length, expanded_of, is_fit_amount}
use Rattle.grain.specs.declared.amounts.Limit.{Limit}
use Rattle.record.specs.declared.Day.{Day}
use Rattle.record.specs.Sound.{is_sound_sheet}
use Rattle.sheets.specs.declared.sheet.Sheet.{Sheet}
use Rattle.sheets.specs.Sheets.{sheet_in}
use Rattle.book.specs.declared.standing.Standing.{Standing}
use Rattle.book.specs.declared.Book.{Book}
use Rattle.book.specs.Book.{is_set, window_of, today_in, last_in}
use Rattle.book.specs.Numbers.{all_products}

abbrev pub is_there : Sheet → Bool
is_there s = is_some (sheet_in s)

abbrev pub is_missing : Sheet → Bool
is_missing s = not (is_some (sheet_in s))

-- the eight sheets of the open day are there
abbrev pub are_all_in : Book → Bool
are_all_in b = every (λ p. is_there (today_in b p)) all_products

-- the last ended sheets are all there, with a date, or none is
abbrev pub are_last_sound : Option Day → List Sheet → Bool
are_last_sound opened sheets = (is_some opened and list_all is_there sheets) || list_all is_missing sheets

-- a mark only on an expanded group, where there are marks
abbrev pub is_mark_sound : Bool → Standing → Bool
is_mark_sound marks s = not (is_set s.marked) || (is_set s.expanded && marks)

-- fit, with its own E
abbrev pub is_sound_limit : ℕ → Limit → Bool
is_sound_limit p limit = is_fit_amount p limit.initial and eqb limit.expanded (expanded_of p limit.initial)

-- a product's window and its two sheets
abbrev pub are_settlements_sound : Book → ℕ → Bool
are_settlements_sound b p =
    (leb (length (window_of b p)) window_length and every (is_settlement p) (window_of b p))
    && is_sound_sheet p (sheet_in (today_in b p))
    && is_sound_sheet p (sheet_in (last_in b p))
