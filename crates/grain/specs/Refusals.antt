-- The number that a refused call returns, by name, and the number of each refusal.
use Rattle.std.specs.Prelude.{ℕ}
use Rattle.grain.specs.declared.refusals.Refusal.{Refusal}
use Rattle.grain.specs.declared.refusals.Refusal.TheVariants.{Unsound, WrongPhase, NoSuchDate, NotLater, NoSuchProduct, Misshapen, BadMonth, BadPrice, ContractAbsent, BeyondLimit, AlreadyIn, SheetOutstanding, UnfitAmount, NotListed, TallyFull, LeftNotSmaller, UnknownEdition, GroupExpanded}

-- the book or the tally is unsound
abbrev pub unsound : ℕ
unsound = 1

-- opening or conversion with a day open; sheet, end or check with none
abbrev pub wrong_phase : ℕ
wrong_phase = 2

-- no such date, or left above the days remaining in the month
abbrev pub no_such_date : ℕ
no_such_date = 3

-- date not later than the last opened
abbrev pub not_later : ℕ
not_later = 4

-- no such product, or size not offered for it
abbrev pub no_such_product : ℕ
no_such_product = 5

-- a sheet whose arrays differ in length, or have 0 or over 16 entries; a season file misshapen, or not 45 settlements
abbrev pub misshapen : ℕ
misshapen = 6

-- sheet month not traded, not strictly ascending, or before the date's month
abbrev pub bad_month : ℕ
bad_month = 7

-- price or settlement out of range or off its tick
abbrev pub bad_price : ℕ
bad_price = 8

-- a contract of the last ended sheet, non-spot today, absent
abbrev pub contract_absent : ℕ
contract_absent = 9

-- non-spot change beyond today's limit
abbrev pub beyond_limit : ℕ
beyond_limit = 10

-- the product's sheet is already in
abbrev pub already_in : ℕ
already_in = 11

-- end with a sheet outstanding
abbrev pub sheet_outstanding : ℕ
sheet_outstanding = 12

-- founding limit or other amount unfit
abbrev pub unfit_amount : ℕ
unfit_amount = 13

-- month not on the last ended sheet, or before the open day's month
abbrev pub not_listed : ℕ
not_listed = 14

-- the tally is full
abbrev pub tally_full : ℕ
tally_full = 15

-- left not smaller than at the previous opening of that month
abbrev pub left_not_smaller : ℕ
left_not_smaller = 16

-- founding under no edition of the rule
abbrev pub unknown_edition : ℕ
unknown_edition = 17

-- conversion of a book under 2014 with an expanded group
abbrev pub group_expanded : ℕ
group_expanded = 18

abbrev pub number_of : Refusal → ℕ
number_of Unsound = unsound
number_of WrongPhase = wrong_phase
number_of NoSuchDate = no_such_date
number_of NotLater = not_later
number_of NoSuchProduct = no_such_product
number_of Misshapen = misshapen
number_of BadMonth = bad_month
number_of BadPrice = bad_price
number_of ContractAbsent = contract_absent
number_of BeyondLimit = beyond_limit
number_of AlreadyIn = already_in
number_of SheetOutstanding = sheet_outstanding
number_of UnfitAmount = unfit_amount
number_of NotListed = not_listed
number_of TallyFull = tally_full
number_of LeftNotSmaller = left_not_smaller
number_of UnknownEdition = unknown_edition
number_of GroupExpanded = group_expanded
