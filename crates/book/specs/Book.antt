-- What a book means: the Record's contents that it holds. Places beyond a count are not read.
use Rattle.std.specs.Prelude.{ℕ, suc, Bool, true, false, ◌&&◌, cond, List, [], ◌∷◌, map, eqb, ltb, get_or, Option, Some, None}
use Rattle.std.specs.List.{list_all}
use Rattle.record.specs.declared.Day.{Day}
use Rattle.record.specs.State.{Level, initial, expanded, Product, Group, Common, Record, group_table}
use Rattle.grain.specs.declared.amounts.Limit.{Limit}
use Rattle.sheets.specs.declared.sheet.Sheet.{Sheet}
use Rattle.sheets.specs.Sheets.{sheet_in}
use Rattle.windows.specs.Windows.{shown}
use Rattle.book.specs.declared.standing.Standing.{Standing}
use Rattle.book.specs.declared.Book.{Book}

-- the format of the books that are made and taken; another layout has another number
abbrev pub format_number : ℕ
format_number = 3

-- ---- flags
abbrev pub flag_word : Bool → ℕ
flag_word b = cond b 1 0

abbrev pub is_flag : ℕ → Bool
is_flag n = ltb n 2

abbrev pub is_set : ℕ → Bool
is_set n = eqb n 1

abbrev pub is_standing : Standing → Bool
is_standing s = is_flag s.expanded && is_flag s.marked

-- of this format, with flags that are 0 or 1
unfoldable pub is_book : Book → Bool
is_book b = eqb b.format format_number && is_flag b.is_open && list_all is_standing b.standings

-- ---- what a place that no array has would hold
abbrev pub no_limit : Limit
no_limit = record { initial = 0; expanded = 0 }

abbrev pub no_standing : Standing
no_standing = record { expanded = 0; marked = 0 }

abbrev pub no_sheet : Sheet
no_sheet = record { count = 0; contracts = [] }

-- ---- the parts of a book
-- any other book is of no edition, and so unsound: every call on it is refused with 1
unfoldable pub edition_in : Book → ℕ
edition_in b = cond (is_book b) b.edition 0

-- four zeros
abbrev pub is_no_day : Day → Bool
is_no_day d = eqb d.year 0 && eqb d.month 0 && eqb d.day 0 && eqb d.left 0

unfoldable pub opened_in : Book → Option Day
opened_in b = cond (is_no_day b.day) None (Some b.day)

abbrev pub limit_in : Book → ℕ → Limit
limit_in b p = get_or b.limits p no_limit

-- the settlements of a product
abbrev pub window_of : Book → ℕ → List ℕ
window_of b p = shown b.windows p

abbrev pub today_in : Book → ℕ → Sheet
today_in b p = get_or b.today p no_sheet

abbrev pub last_in : Book → ℕ → Sheet
last_in b p = get_or b.last p no_sheet

abbrev pub standing_in : Book → ℕ → Standing
standing_in b g = get_or b.standings g no_standing

abbrev pub level_of : Bool → Level
level_of true = expanded
level_of false = initial

-- ---- and the Record
unfoldable pub view_product : Book → ℕ → Product
view_product b p =
    record {
      number = p;
      initial_limit = (limit_in b p).initial;
      expanded_limit = (limit_in b p).expanded;
      window = window_of b p;
      today = sheet_in (today_in b p);
      last = sheet_in (last_in b p);
    }

unfoldable pub view_group : Book → ℕ → List ℕ → Group
view_group b g ps =
    record {
      level = level_of (is_set (standing_in b g).expanded);
      mark = is_set (standing_in b g).marked;
      products = map (view_product b) ps;
    }

-- the groups from number g on
abbrev pub view_groups : Book → ℕ → List (List ℕ) → List Group
view_groups b g [] = []
view_groups b g (ps ∷ l) = view_group b g ps ∷ view_groups b (suc g) l

unfoldable pub view_common : Book → Common
view_common b = record { edition = edition_in b; opened = opened_in b; is_open = is_set b.is_open }

unfoldable pub view : Book → Record
view b = record { common = view_common b; groups = view_groups b 0 group_table }
