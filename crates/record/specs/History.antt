-- The history of a list of calls: the accepted changes, latest first, read off the calls and the answers alone.
use Rattle.std.specs.Prelude.{ℕ, Bool, true, false, cond, List, [], ◌∷◌, map, ◌≡◌, eqb, get_or, Option, Some, None}
use Rattle.record.specs.State.{Day, Sheet, group_table}
use Rattle.record.specs.Sheet.{contracts}
use Rattle.record.specs.Record.{Change, opening, sheet, end, convert, Call, change, question, Answer, refused, accepted}

pub record ProductSheet : Type 0 where
  pub product : ℕ
  pub sheet : Sheet

-- A day: its accepted opening, the sheets that it got, and whether it is ended.
pub record KeptDay : Type 0 where
  pub day : Day
  pub sheets : List ProductSheet
  pub is_ended : Bool

-- What a history is made of.
pub data Entry : Type 0 where
  a_day : KeptDay → Entry
  a_conversion : Entry

-- what an accepted change adds; a sheet and an end are of the last day, which is open
abbrev pub with_sheet : ProductSheet → List Entry → List Entry
with_sheet f (a_day k ∷ es) = a_day (record { day = k.day; sheets = f ∷ k.sheets; is_ended = k.is_ended }) ∷ es
with_sheet f es = es

abbrev pub with_end : List Entry → List Entry
with_end (a_day k ∷ es) = a_day (record { day = k.day; sheets = k.sheets; is_ended = true }) ∷ es
with_end es = es

abbrev pub add : Change → List Entry → List Entry
add (opening d) es = a_day (record { day = d; sheets = []; is_ended = false }) ∷ es
add (sheet p ms ss) es = with_sheet (record { product = p; sheet = contracts ms ss }) es
add end es = with_end es
add convert es = a_conversion ∷ es

-- a refused change adds nothing
abbrev pub add_by : Answer → Change → List Entry → List Entry
add_by (refused n) c es = es
add_by (accepted a) c es = add c es

-- a question adds nothing
abbrev pub history_by : Answer → Call → List Entry → List Entry
history_by a (change c) es = add_by a c es
history_by a (question q) es = es

unfoldable pub kept_from : List Entry → List Call → List Answer → List Entry
kept_from es [] as' = es
kept_from es (c ∷ cs) [] = es
kept_from es (c ∷ cs) (a ∷ as') = kept_from (history_by a c es) cs as'

abbrev pub kept : List Call → List Answer → List Entry
kept cs as' = kept_from [] cs as'

-- the sheet that a product got on a day, if any
abbrev pub sheet_among : List ProductSheet → ℕ → Option Sheet
sheet_among [] p = None
sheet_among (f ∷ fs) p = cond (eqb p f.product) (Some f.sheet) (sheet_among fs p)

-- An opening by date and left, and whether the day is ended; or a conversion.
pub data Milestone : Type 0 where
  day_opened : Day → Bool → Milestone
  book_converted : Milestone

abbrev pub milestone : Entry → Milestone
milestone (a_day k) = day_opened k.day k.is_ended
milestone a_conversion = book_converted

abbrev pub milestones_of : List Entry → List Milestone
milestones_of es = map milestone es

-- for each day and each of the products, the sheet that the product got; a conversion has none
abbrev pub sheets_on : List ℕ → Entry → List (Option Sheet)
sheets_on ps (a_day k) = map (sheet_among k.sheets) ps
sheets_on ps a_conversion = []

abbrev pub sheets_of : List ℕ → List Entry → List (List (Option Sheet))
sheets_of ps es = map (sheets_on ps) es

abbrev pub products_of : ℕ → List ℕ
products_of g = get_or group_table g []

-- The same openings, ends and conversions in their order, and the same sheets of one group on each day, an open day's included.
pub record SameFor (g : ℕ) (es fs : List Entry) : Type 0 where
  pub milestones : milestones_of es ≡ milestones_of fs
  pub sheets : sheets_of (products_of g) es ≡ sheets_of (products_of g) fs
