-- What a sheet of the book means: the Record's contracts within its count.
use Rattle.std.specs.Prelude.{ℕ, ◌+◌, ◌≡◌, Bool, cond, List, map, leb, eqb, length, take, replicate, Option, Some, None}
use Rattle.grain.specs.Lists.{◌and◌, every, is_ascending}
use Rattle.grain.specs.Products.{is_traded}
use Rattle.grain.specs.Prices.{is_settlement}
use Rattle.record.specs.declared.Contract.{Contract}
use Rattle.record.specs.State.{max_contracts}
use Rattle.record.specs.Sheet.{contracts}
use Rattle.sheets.specs.declared.sheet.Sheet.{Sheet}

abbrev pub no_contract : Contract
no_contract = record { month = 0; settlement = 0 }

abbrev pub empty_sheet : Sheet
empty_sheet = record { count = 0; contracts = replicate max_contracts no_contract }

-- the contracts in the places that the count reaches, which every sheet has
unfoldable pub entries_of : Sheet → List Contract
entries_of s = take s.count s.contracts

-- a count beyond the 16 places is shown as a sheet that is too long, which no sound book has
unfoldable pub contracts_of : Sheet → List Contract
contracts_of s = cond (leb s.count max_contracts) (entries_of s) (replicate (max_contracts + 1) no_contract)

-- a product's sheet, or none where its count is 0
unfoldable pub sheet_in : Sheet → Option (List Contract)
sheet_in s = cond (eqb s.count 0) None (Some (contracts_of s))

abbrev pub months_of : List Contract → List ℕ
months_of cs = map (λ (c : Contract). c.month) cs

abbrev pub settlements_of : List Contract → List ℕ
settlements_of cs = map (λ (c : Contract). c.settlement) cs

-- The first 16 of the months and settlements put together.
pub record SheetOf (months settlements : List ℕ) (s : Sheet) : Type 0 where
  pub count : s.count ≡ length (take max_contracts (contracts months settlements))
  pub entries : entries_of s ≡ take max_contracts (contracts months settlements)

-- months as in 7 without the date test, settlements on the standard tick
abbrev pub are_sound_contracts : ℕ → List Contract → Bool
are_sound_contracts p cs =
    is_ascending (months_of cs) and every (is_traded p) (months_of cs) and every (is_settlement p) (settlements_of cs)
