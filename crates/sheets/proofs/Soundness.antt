-- A sheet with 1 to 16 contracts is sound where its months and settlements are.
use Prim.Native.Nat.{ℕ, ◌≤◌}
use mathlib.Core.Path.{◌≡◌}
use native.Mathlib.Omega.{arith}
use lib.ListN.{length}
use Rattle.std.proofs.lemmas.List.{take_all}
use lib.Seq.{length-take-le}
use borrow.Author.Tests.{le-leb, ne_eqb}
use Rattle.grain.specs.Lists.{◌and◌}
use Rattle.record.specs.Sound.{is_sound_sheet}
use Rattle.sheets.specs.declared.sheet.Sheet.{Sheet}
use Rattle.sheets.specs.Sheets.{entries_of, sheet_in, are_sound_contracts}
use Rattle.sheets.proofs.Rest.{counted}

pub entries_count : (s : Sheet) → length s.contracts ≡ 16 → s.count ≤ 16 → length (entries_of s) ≡ s.count
unfolding entries_of
entries_count s long l = length-take-le s.count s.contracts (omega arith)

pub full_entries : (s : Sheet) → length s.contracts ≡ 16 → s.count ≡ 16 → entries_of s ≡ s.contracts
unfolding entries_of
full_entries s long full = take_all s.count s.contracts (omega (arith, long, full))

pub sound_by_tests : (p : ℕ) (s : Sheet) → length s.contracts ≡ 16 → (s.count ≡ 0 → ⊥) → s.count ≤ 16
    → is_sound_sheet p (sheet_in s) ≡ are_sound_contracts p (entries_of s)
unfolding sheet_in is_sound_sheet ◌and◌
sound_by_tests p s long n l =
    rw
    (ne_eqb s.count 0 n, counted s l, entries_count s long l, le-leb 1 s.count (omega arith), le-leb s.count 16 l)
