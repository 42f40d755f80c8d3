-- The default of a sheet is the empty one.
use Rattle.std.proofs.Common.{◌≡◌, ℕ, List}
use Rattle.std.specs.Prelude.{replicate}
use Rattle.std.specs.Array.{AllOfLen}
use Rattle.grain.proofs.Defaults.{all_are}
use Rattle.record.specs.declared.Contract.{Contract}
use Rattle.record.specs.State.{max_contracts}
use Rattle.sheets.specs.declared.sheet.Sheet.{Sheet}
use Rattle.sheets.specs.Sheets.{no_contract, empty_sheet}

-- a contract's default, field by field
abbrev pub IsNoContract : Contract → Type 0
IsNoContract c = (c.month ≡ 0) × (c.settlement ≡ 0)

record_contract : (m s : ℕ) → m ≡ 0 → s ≡ 0 → ◌≡◌ {A = Contract} (record { month = m; settlement = s }) no_contract
record_contract m s p q = rw (p, q)

record_sheet : (n : ℕ) (l : List Contract) → n ≡ 0 → l ≡ replicate max_contracts no_contract → ◌≡◌ {A = Sheet} (record { count = n; contracts = l }) empty_sheet
record_sheet n l p q = rw (p, q)

pub default_sheet : (s : Sheet) → s.count ≡ 0 → AllOfLen IsNoContract s.contracts max_contracts → s ≡ empty_sheet
default_sheet s none zeros =
    record_sheet s.count s.contracts none
    (all_are no_contract (λ c e. record_contract c.month c.settlement e.0 e.1) max_contracts s.contracts zeros)
