-- The search for the leading contract: the next month, and whether a product's contract of a month meets the condition.
-- For the functions inside: what the search promises is in Lead.antt alone. All of it is of any sheet, also one of a damaged count.
use Rattle.std.specs.Prelude.{ℕ, min, Bool, true, false, not, ◌&&◌, cond, List, map, leb, ltb, eqb, sum_by, take, count_by, Option, Some, None}
use Rattle.std.specs.List.{filter, filter_map, reduce}
use Rattle.grain.specs.Lists.{distance}
use Rattle.grain.specs.Products.{first_of, is_last_crop_month}
use Rattle.record.specs.declared.Contract.{Contract}
use Rattle.record.specs.State.{settlement_on}
use Rattle.record.specs.Move.{Move}
use Rattle.grain.specs.declared.spot.TradeDate.{TradeDate}
use Rattle.grain.specs.Spot.{is_spot}
use Rattle.sheets.specs.Sheets.{entries_of}
use Rattle.sheets.specs.declared.sheet.Sheet.{Sheet}
use Rattle.grain.specs.declared.amounts.Limit.{Limit}
use Rattle.book.specs.declared.Book.{Book}
use Rattle.book.specs.Book.{limit_in, today_in, last_in}
use Rattle.ending.specs.declared.lead.condition.Condition.{Condition}
use Rattle.ending.specs.declared.lead.condition.Condition.TheVariants.{OneAtInitial, TwoAtInitial, AtLeastInitial, AtExpanded}
use Rattle.ending.specs.Lead.{meets}

-- the nearest month of a sheet after month a
unfoldable pub next_on : ℕ → List Contract → Option ℕ
next_on a s = reduce min (filter (λ m. ltb a m) (map (λ (c : Contract). c.month) s))

-- the nearest on some sheets
unfoldable pub next_among : ℕ → List Sheet → Option ℕ
next_among a sheets = reduce min (filter_map (λ (s : Sheet). next_on a (entries_of s)) sheets)

module _ (spot : ℕ → Bool) (m : ℕ) where
  abbrev pub is_earlier : Contract → Bool
  is_earlier c = not (spot c.month) && ltb c.month m

  -- how many non-spot contracts of a sheet are before month m
  unfoldable pub count_earlier : List Contract → ℕ
  count_earlier s = count_by is_earlier s

-- whether the move of product p in month m meets g; i and e are its limits. A contract that is not on both sheets has none
abbrev pub change_meets : (Move → Bool) → ℕ → ℕ → ℕ → ℕ → Bool → Option ℕ → Option ℕ → Bool
change_meets g p i e m is_first None y = false
change_meets g p i e m is_first (Some x) None = false
change_meets g p i e m is_first (Some x) (Some y) =
    g (record { month = m; product = p; is_first = is_first; size = distance x y; initial_limit = i; expanded_limit = e })

-- the same from the two sheets, where a spot contract meets nothing
unfoldable pub meets_on : (Move → Bool) → (ℕ → Bool) → ℕ → ℕ → ℕ → List Contract → List Contract → ℕ → Bool
meets_on g spot p i e today last m =
    cond (spot m) false
    (change_meets g p i e m (ltb (count_earlier spot m today) (first_of p)) (settlement_on today m) (settlement_on last m))

-- ---- two moves of exactly I, or one of the last crop-year month, which counts as two
-- what a contract counts whose change is from the settlement before; i is its product's I
abbrev pub count_from : ℕ → ℕ → Contract → Option ℕ → ℕ
count_from p i c None = 0
count_from p i c (Some before) = cond (eqb (distance c.settlement before) i) (cond (is_last_crop_month p c.month) 2 1) 0

-- the same, from the last ended sheet
unfoldable pub count_of : ℕ → ℕ → List Contract → Contract → ℕ
count_of p i last c = count_from p i c (settlement_on last c.month)

-- ---- of a product, from its limit and from the contracts of today's and of the last ended sheet
module _ (date : TradeDate) (p : ℕ) (limit : Limit) (today last : List Contract) where
  -- the first N non-spot contracts of today
  abbrev pub first_in : List Contract
  first_in = take (first_of p) (filter (λ (c : Contract). not (is_spot date c.month)) today)

  -- what they count is 2 or more
  unfoldable pub are_enough_in : Bool
  are_enough_in = leb 2 (sum_by (count_of p limit.initial last) first_in)

  abbrev pub suffice_in : Condition → Bool
  suffice_in OneAtInitial = true
  suffice_in TwoAtInitial = are_enough_in
  suffice_in AtLeastInitial = true
  suffice_in AtExpanded = true

  -- its contract of month m meets the condition, and its moves suffice
  unfoldable pub is_met_by : Condition → ℕ → Bool
  is_met_by condition m =
      meets_on (meets condition) (is_spot date) p limit.initial limit.expanded today last m && suffice_in condition

abbrev pub is_met : Condition → TradeDate → Book → ℕ → ℕ → Bool
is_met condition date b m p = is_met_by date p (limit_in b p) (entries_of (today_in b p)) (entries_of (last_in b p)) condition m
