-- What a sheet promises, whatever the book, the product and the two arrays.
use Rattle.std.specs.Prelude.{ℕ, not, List, [], ◌∷◌, is_some, Result}
use Rattle.grain.specs.Products.{is_product}
use Rattle.grain.specs.Refusals.{no_such_product, misshapen, bad_price}
use Rattle.grain.specs.declared.refusals.Refusal.{Refusal}
use Rattle.record.specs.declared.Contract.{Contract}
use Rattle.record.specs.Refusals.{Test, when, already_in, bad_month, contract_absent, beyond_limit}
use Rattle.record.specs.State.{Record, day_of, month_of, is_spot_on, group_of, group_at, product_in, todays_limit, sheet_or}
use Rattle.record.specs.Sheet.{is_misshapen, has_bad_month, has_bad_settlement, lacks_contract, is_beyond}
use Rattle.record.specs.Record.{sheet, filed, Answer}
use Rattle.sheets.specs.Sheets.{months_of, settlements_of}
use Rattle.book.specs.declared.Book.{Book}
use Rattle.book.specs.Calls.{Responds, answer_as}

abbrev pub filed_as : Result (Unit {0}) Refusal → Answer
filed_as r = answer_as (λ _. filed) r

abbrev pub Files : Book → ℕ → List ℕ → List ℕ → Result (Unit {0}) Refusal → Book → Type 0
Files b p ms ss r after = Responds b (sheet p ms ss) (filed_as r) after

-- For the functions inside: the Record's tests in two parts, which proofs/Filings.antt holds against them.
-- the refusals after 1 and 2, before the contracts are looked at: 5, 11, 6
abbrev pub early_tests : Record → ℕ → List ℕ → List ℕ → List Test
early_tests r p ms ss =
    when (not (is_product p)) no_such_product
    ∷ when (is_some (product_in (group_at r (group_of p)) p).today) already_in
    ∷ when (is_misshapen ms ss) misshapen
    ∷ []

-- those that look at the contracts: 7, 8, 9, 10
abbrev pub contract_tests : Record → ℕ → List Contract → List Test
contract_tests r p s =
    let d = day_of r.common in
    let g = group_at r (group_of p) in
    when (has_bad_month (month_of d) p (months_of s)) bad_month
    ∷ when (has_bad_settlement p (settlements_of s)) bad_price
    ∷ when (lacks_contract (is_spot_on d) (sheet_or (product_in g p).last) s) contract_absent
    ∷ when (is_beyond (is_spot_on d) (todays_limit g p) (sheet_or (product_in g p).last) s) beyond_limit
    ∷ []
