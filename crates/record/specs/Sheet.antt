-- A sheet: the months and settlements of a product's contracts on the open day.
use Rattle.std.specs.Prelude.{ℕ, Bool, false, not, ◌&&◌, ◌||◌, cond, List, [], ◌∷◌, map, leb, ltb, eqb, length, Option, Some, None, is_some}
use Rattle.std.specs.List.{list_any}
use Rattle.grain.specs.Lists.{◌and◌, every, is_ascending, distance}
use Rattle.grain.specs.Products.{is_traded}
use Rattle.grain.specs.Prices.{is_settlement}
use Rattle.grain.specs.Refusals.{misshapen, bad_price}
use Rattle.record.specs.Refusals.{Test, when, already_in, bad_month, contract_absent, beyond_limit}
use Rattle.record.specs.State.{max_contracts, Contract, Sheet, Product, Group, Common, with_products, with_today, day_of, month_of, is_spot_on, product_in, todays_limit, sheet_or, settlement_on}

-- the two arrays as contracts
abbrev pub contracts : List ℕ → List ℕ → Sheet
contracts [] ss = []
contracts (m ∷ ms) [] = []
contracts (m ∷ ms) (s ∷ ss) = record { month = m; settlement = s } ∷ contracts ms ss

unfoldable pub is_misshapen : List ℕ → List ℕ → Bool
is_misshapen ms ss = not (eqb (length ms) (length ss)) || eqb (length ms) 0 || ltb max_contracts (length ms)

-- by the contract month of the date
unfoldable pub has_bad_month : ℕ → ℕ → List ℕ → Bool
has_bad_month month p ms = not (is_ascending ms and every (is_traded p) ms and every (leb month) ms)

unfoldable pub has_bad_settlement : ℕ → List ℕ → Bool
has_bad_settlement p ss = not (every (is_settlement p) ss)

-- a contract of the last ended sheet, non-spot today, is not on the sheet; spot tells the spot months
abbrev pub is_absent : (ℕ → Bool) → Sheet → Contract → Bool
is_absent spot s c = not (spot c.month) && not (is_some (settlement_on s c.month))

unfoldable pub lacks_contract : (ℕ → Bool) → Sheet → Sheet → Bool
lacks_contract spot last s = list_any (is_absent spot s) last

-- a contract that is not on the last ended sheet has no change
abbrev pub is_beyond_by : ℕ → ℕ → Option ℕ → Bool
is_beyond_by limit settlement None = false
is_beyond_by limit settlement (Some before) = ltb limit (distance settlement before)

-- a non-spot change is beyond the limit
abbrev pub has_moved_beyond : (ℕ → Bool) → ℕ → Sheet → Contract → Bool
has_moved_beyond spot limit last c =
    not (spot c.month) && is_beyond_by limit c.settlement (settlement_on last c.month)

unfoldable pub is_beyond : (ℕ → Bool) → ℕ → Sheet → Sheet → Bool
is_beyond spot limit last s = list_any (has_moved_beyond spot limit last) s

-- the refusals after 1, 2 and 5, in their order
unfoldable pub sheet_tests : Common → Group → ℕ → List ℕ → List ℕ → List Test
sheet_tests c g p ms ss =
    let d = day_of c in
    let q = product_in g p in
    when (is_some q.today) already_in
    ∷ when (is_misshapen ms ss) misshapen
    ∷ when (has_bad_month (month_of d) p ms) bad_month
    ∷ when (has_bad_settlement p ss) bad_price
    ∷ when (lacks_contract (is_spot_on d) (sheet_or q.last) (contracts ms ss)) contract_absent
    ∷ when (is_beyond (is_spot_on d) (todays_limit g p) (sheet_or q.last) (contracts ms ss)) beyond_limit
    ∷ []

unfoldable pub file_product : ℕ → Sheet → Product → Product
file_product p s q = with_today (cond (eqb q.number p) (Some s) q.today) q

unfoldable pub file_group : ℕ → Sheet → Group → Group
file_group p s g = with_products (map (file_product p s) g.products) g
