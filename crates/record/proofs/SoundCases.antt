-- Records that are sound and Records that are not, computed. No list of calls reaches the latter.
use Prim.Native.Nat.{ℕ, zero, suc, ◌-◌}
use mathlib.Core.Path.{◌≡◌, refl}
use mathlib.Core.Bool.{Bool, true, false}
use mathlib.Core.List.{List, [], ◌∷◌}
use Rattle.std.specs.Prelude.{Option, Some, None}
use lib.ListN.{replicate, drop}
use Rattle.grain.specs.Dates.{contract_month}
use Rattle.record.specs.State.{Day, Sheet, Level, initial, expanded, Product, Common, Record, with_opened, with_is_open}
use Rattle.record.specs.Sheet.{contracts}
use Rattle.record.specs.Sound.{is_sound}
use Rattle.record.specs.Record.{refused}
use Rattle.record.proofs.Examples.{corn, jul24, aug24, sep24, june3, june4, on, a_book, opens, ends, converts, checks, unmoved, quiet_day, state_of, answers_after}

abbrev no_date : Common
no_date = a_book.common

abbrev dated : Day → Bool → Common
dated d is_open = with_opened (Some d) (with_is_open is_open no_date)

abbrev corn_with : ℕ → ℕ → List ℕ → Option Sheet → Option Sheet → Product
corn_with i e window today last =
    record { number = corn; initial_limit = i; expanded_limit = e; window = window; today = today; last = last }

-- as founded, but for the group of Corn
abbrev book : Common → Level → Bool → Product → Record
book c level mark q =
    record { common = c; groups = record { level = level; mark = mark; products = q ∷ [] } ∷ drop 1 a_book.groups }

-- Corn with these limits, as founded otherwise
abbrev with_limits : ℕ → ℕ → Record
with_limits i e = book no_date initial false (corn_with i e [] None None)

abbrev with_window : List ℕ → Record
with_window w = book no_date initial false (corn_with 200 320 w None None)

-- a day is open and a sheet of Corn is in
abbrev with_sheet_in : List ℕ → List ℕ → Record
with_sheet_in ms ss = book (dated june3 true) initial false (corn_with 200 320 [] (Some (contracts ms ss)) None)

-- July of each of n years
abbrev julys : ℕ → List ℕ
julys zero = []
julys (suc n) = contract_month (2040 - n) 7 ∷ julys n

-- ---- sound
-- limits at the cap
pub at_the_cap : is_sound (with_limits 2000000 2000000) ≡ true
unfolding state_of
at_the_cap = refl

-- a full window with no date
pub full_window : is_sound (with_window (replicate 45 6000)) ≡ true
unfolding state_of
full_window = refl

-- expanded and marked with no ended sheets
pub marked_at_first : is_sound (book no_date expanded true (corn_with 200 320 [] None None)) ≡ true
unfolding state_of
marked_at_first = refl

-- a date with no day open and no ended sheets
pub only_date : is_sound (book (dated june3 false) initial false (corn_with 200 320 [] None None)) ≡ true
unfolding state_of
only_date = refl

-- a sheet in whose month is before the date's: months as in 7 without the date test
pub past_month_in : is_sound (with_sheet_in (contract_month 2024 5 ∷ []) (4000 ∷ [])) ≡ true
unfolding state_of
past_month_in = refl

-- a sheet with 16 entries
pub sixteen_entries : is_sound (with_sheet_in (julys 16) (replicate 16 4000)) ≡ true
unfolding state_of
sixteen_entries = refl

-- ---- unsound
-- E not as by Amounts
pub wrong_expanded : is_sound (with_limits 200 300) ≡ false
unfolding state_of
wrong_expanded = refl

-- I off the step
pub off_the_step : is_sound (with_limits 210 320) ≡ false
unfolding state_of
off_the_step = refl

-- I below the floor
pub below_the_floor : is_sound (with_limits 120 200) ≡ false
unfolding state_of
below_the_floor = refl

-- I above 2,000,000
pub above_the_most : is_sound (with_limits 2000040 2000000) ≡ false
unfolding state_of
above_the_most = refl

-- a mark on an initial group
pub mark_on_initial : is_sound (book no_date initial true (corn_with 200 320 [] None None)) ≡ false
unfolding state_of
mark_on_initial = refl

-- the same group, expanded, with a mark and without, under an edition
abbrev expanded_under : ℕ → Bool → Record
expanded_under edition mark =
    book (record { edition = edition; opened = None; is_open = false }) expanded mark (corn_with 200 320 [] None None)

-- under 2023 a mark is sound, under 2014 it is not
pub marks :
    is_sound (expanded_under 2023 true) ∷ is_sound (expanded_under 2014 false) ∷ is_sound (expanded_under 2014 true) ∷ []
    ≡ true ∷ true ∷ false ∷ []
unfolding state_of
marks = refl

-- no edition: every call is refused with 1
pub no_edition :
    answers_after (expanded_under 2015 false) [] (opens june3 ∷ unmoved corn ∷ ends ∷ converts ∷ checks corn 0 jul24 4000 ∷ [])
    ≡ replicate 5 (refused 1)
unfolding state_of
no_edition = refl

-- 1 before 18: an expanded group under 2014, with a mark
pub marked_conversion : answers_after (expanded_under 2014 true) [] (converts ∷ []) ≡ refused 1 ∷ []
unfolding state_of
marked_conversion = refl

-- a window of 46
pub long_window : is_sound (with_window (replicate 46 6000)) ≡ false
unfolding state_of
long_window = refl

-- a settlement in a window off the standard tick
pub off_the_tick : is_sound (with_window (6001 ∷ [])) ≡ false
unfolding state_of
off_the_tick = refl

-- a day open with no date
pub open_without_date :
    is_sound (book (with_is_open true no_date) initial false (corn_with 200 320 [] None None)) ≡ false
unfolding state_of
open_without_date = refl

-- a false date
pub false_date : is_sound (book (dated (on 2023 2 29 0) false) initial false (corn_with 200 320 [] None None)) ≡ false
unfolding state_of
false_date = refl

-- left above the days remaining in the month
pub too_many_left : is_sound (book (dated (on 2024 6 28 3) false) initial false (corn_with 200 320 [] None None)) ≡ false
unfolding state_of
too_many_left = refl

-- a sheet in while no day is open
pub sheet_in_unopened :
    is_sound (book (dated june3 false) initial false (corn_with 200 320 [] (Some (contracts (jul24 ∷ []) (4000 ∷ []))) None))
    ≡ false
unfolding state_of
sheet_in_unopened = refl

-- a last ended sheet of one product only
pub one_last_sheet :
    is_sound (book (dated june3 false) initial false (corn_with 200 320 [] None (Some (contracts (jul24 ∷ []) (4000 ∷ [])))))
    ≡ false
unfolding state_of
one_last_sheet = refl

-- all eight last ended sheets, and no date
pub last_without_date : is_sound (record { common = no_date; groups = (state_of a_book (quiet_day june3)).groups }) ≡ false
unfolding state_of
last_without_date = refl

-- a sheet with no entry
pub no_entry : is_sound (with_sheet_in [] []) ≡ false
unfolding state_of
no_entry = refl

-- a sheet with 17 entries
pub seventeen_entries : is_sound (with_sheet_in (julys 17) (replicate 17 4000)) ≡ false
unfolding state_of
seventeen_entries = refl

-- a month not traded
pub not_traded : is_sound (with_sheet_in (jul24 ∷ aug24 ∷ []) (4000 ∷ 4000 ∷ [])) ≡ false
unfolding state_of
not_traded = refl

-- months not strictly ascending
pub equal_months : is_sound (with_sheet_in (jul24 ∷ jul24 ∷ []) (4000 ∷ 4000 ∷ [])) ≡ false
unfolding state_of
equal_months = refl

-- a settlement above 1,000,000
pub out_of_range : is_sound (with_sheet_in (jul24 ∷ []) (1000002 ∷ [])) ≡ false
unfolding state_of
out_of_range = refl

-- 1 comes first: a false date, no such product, no day open
pub unsound_first :
    answers_after (book no_date initial true (corn_with 200 320 [] None None)) []
    (opens (on 2023 2 29 0) ∷ unmoved 8 ∷ ends ∷ checks 8 0 sep24 4000 ∷ opens june4 ∷ [])
    ≡ replicate 5 (refused 1)
unfolding state_of
unsound_first = refl
