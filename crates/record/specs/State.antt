-- The contents of the Record, the rule's name for the plain second book: what all groups share, and a part for each group.
use Rattle.std.specs.Prelude.{ℕ, suc, Bool, false, cond, List, [], ◌∷◌, eqb, get_or, Option, Some, None, unwrap_or}
use Rattle.grain.specs.Lists.{is_in}
use Rattle.grain.specs.Dates.{contract_month}
use Rattle.grain.specs.declared.spot.TradeDate.{TradeDate}
use Rattle.grain.specs.Spot.{is_spot}
-- a date with what the rule calls left, the business days of that month after this day; and a contract of a sheet
pub use Rattle.record.specs.declared.Day.{Day}
pub use Rattle.record.specs.declared.Contract.{Contract}

-- how many contracts a sheet can have
abbrev pub max_contracts : ℕ
max_contracts = 16

abbrev pub Sheet : Type 0
Sheet = List Contract

pub data Level : Type 0 where
  initial expanded : Level

pub record Product : Type 0 where
  pub number : ℕ
  -- I and E of the rule
  pub initial_limit : ℕ
  pub expanded_limit : ℕ
  -- oldest first
  pub window : List ℕ
  -- the sheet that is in today
  pub today : Option Sheet
  -- the sheet of the last ended day
  pub last : Option Sheet

pub record Group : Type 0 where
  pub level : Level
  -- the rule's mark: held on the ended day before, with a move of exactly E, and no new limits since
  pub mark : Bool
  pub products : List Product

pub record Common : Type 0 where
  -- the edition of the rule, by year
  pub edition : ℕ
  -- the last opened day
  pub opened : Option Day
  pub is_open : Bool

pub record Record : Type 0 where
  pub common : Common
  pub groups : List Group

-- ---- the same with one part changed
abbrev pub with_edition : ℕ → Common → Common
with_edition e c = record c { edition = e }

abbrev pub with_opened : Option Day → Common → Common
with_opened o c = record c { opened = o }

abbrev pub with_is_open : Bool → Common → Common
with_is_open b c = record c { is_open = b }

abbrev pub with_level : Level → Group → Group
with_level l g = record g { level = l }

abbrev pub with_mark : Bool → Group → Group
with_mark b g = record g { mark = b }

abbrev pub with_products : List Product → Group → Group
with_products qs g = record g { products = qs }

-- I and E
abbrev pub with_limits : ℕ → ℕ → Product → Product
with_limits i e q = record q { initial_limit = i; expanded_limit = e }

abbrev pub with_window : List ℕ → Product → Product
with_window w q = record q { window = w }

-- the sheet that is in today, and that of the last ended day
abbrev pub with_sheets : Option Sheet → Option Sheet → Product → Product
with_sheets today last q = record q { today = today; last = last }

abbrev pub with_today : Option Sheet → Product → Product
with_today s q = record q { today = s }

-- ---- groups and products
-- the products of each group: Corn; the Soybean Complex; Chicago and KC Wheat; Oats; Rough Rice
unfoldable pub group_table : List (List ℕ)
group_table = (0 ∷ []) ∷ (1 ∷ 2 ∷ 3 ∷ []) ∷ (4 ∷ 5 ∷ []) ∷ (6 ∷ []) ∷ (7 ∷ []) ∷ []

-- how many groups there are
abbrev pub group_count : ℕ
group_count = 5

-- the place of the group that holds a product
abbrev pub place_in : List (List ℕ) → ℕ → ℕ
place_in [] p = 0
place_in (ps ∷ l) p = cond (is_in p ps) 0 (suc (place_in l p))

abbrev pub group_of : ℕ → ℕ
group_of p = place_in group_table p

abbrev pub no_day : Day
no_day = record { year = 0; month = 0; day = 0; left = 0 }

abbrev pub no_product : Product
no_product = record { number = 0; initial_limit = 0; expanded_limit = 0; window = []; today = None; last = None }

abbrev pub no_group : Group
no_group = record { level = initial; mark = false; products = [] }

abbrev pub day_of : Common → Day
day_of c = unwrap_or c.opened no_day

-- the contract month of a date
abbrev pub month_of : Day → ℕ
month_of d = contract_month d.year d.month

abbrev pub trade_date : Day → TradeDate
trade_date d = record { month = month_of d; left = d.left }

-- a contract month is spot on a day
abbrev pub is_spot_on : Day → ℕ → Bool
is_spot_on d month = is_spot (trade_date d) month

abbrev pub group_at : Record → ℕ → Group
group_at r g = get_or r.groups g no_group

abbrev pub find : ℕ → List Product → Product
find p [] = no_product
find p (q ∷ l) = cond (eqb q.number p) q (find p l)

abbrev pub product_in : Group → ℕ → Product
product_in g p = find p g.products

abbrev pub limit_at : Level → ℕ → ℕ → ℕ
limit_at initial i e = i
limit_at expanded i e = e

-- today's limit of a product of the group: I or E by the group's level
abbrev pub todays_limit : Group → ℕ → ℕ
todays_limit g p = limit_at g.level (product_in g p).initial_limit (product_in g p).expanded_limit

abbrev pub sheet_or : Option Sheet → Sheet
sheet_or s = unwrap_or s []

-- the settlement of a month on a sheet
abbrev pub settlement_on : Sheet → ℕ → Option ℕ
settlement_on [] month = None
settlement_on (c ∷ s) month = cond (eqb c.month month) (Some c.settlement) (settlement_on s month)
