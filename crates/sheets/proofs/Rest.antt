-- A sheet's contracts: how many places its array has, and those that its count reaches.
use Prim.Native.Nat.{ℕ, ◌≤◌}
use mathlib.Core.Path.{◌≡◌, sym, ◌∙◌}
use mathlib.Core.List.{List, map}
use lib.ListN.{length, length-map}
use borrow.Author.Tests.{le-leb}
use Rattle.sheets.specs.declared.sheet.Sheet.{Sheet}
use Rattle.sheets.specs.Sheets.{entries_of, contracts_of}

-- what owning an array of structs tells of its length; `search mapped` finds it in a record of what is known
pub mapped : (X Y : Type 0) (f : X → Y) (l : List X) (n : ℕ) → length (map f l) ≡ n → length l ≡ n
mapped X Y f l n e = sym (length-map l f) ∙ e

-- where the count fits, the places that it reaches are the sheet
pub counted : (s : Sheet) → s.count ≤ 16 → contracts_of s ≡ entries_of s
unfolding contracts_of
counted s l = rw (le-leb s.count 16 l)
