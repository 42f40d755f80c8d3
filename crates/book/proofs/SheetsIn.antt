-- The contracts of a sheet, which has none where its count is 0.
use mathlib.Core.Path.{◌≡◌, refl, sym}
use mathlib.Core.Bool.{Bool, true, false, cond}
use Rattle.std.specs.Prelude.{Some, None}
use mathlib.Core.List.{[]}
use lib.Dec.{eqb}
use borrow.Author.Tests.{eqb-true}
use Rattle.record.specs.State.{sheet_or}
use Rattle.sheets.specs.declared.sheet.Sheet.{Sheet}
use Rattle.sheets.specs.Sheets.{entries_of, contracts_of, sheet_in}

pub none-listed : (s : Sheet) → s.count ≡ 0 → contracts_of s ≡ []
unfolding contracts_of entries_of
none-listed s e = rw e

-- the contracts of a sheet in the book; where none is in there are none
pub sheet_contracts : (s : Sheet) → sheet_or (sheet_in s) ≡ contracts_of s
unfolding sheet_in
sheet_contracts s = go (eqb s.count 0) refl
  where
    go : (b : Bool) → eqb s.count 0 ≡ b → sheet_or (cond b None (Some (contracts_of s))) ≡ contracts_of s
    go true e = sym (none-listed s (eqb-true s.count 0 e))
    go false e = refl
