use Rattle.std.proofs.Common.{◌≡◌, refl, sym, ◌∙◌, ℕ, ◌≤◌, length, Bool, true, false, eqb, cond}
use Rattle.std.specs.Prelude.{not, Some, None, is_some}
use borrow.Author.Tests.{lt-leb, eq-eqb, ne_eqb}
use Rattle.grain.specs.Lists.{◌and◌}
use Rattle.record.specs.Sound.{is_sound_sheet}
use Rattle.sheets.specs.declared.sheet.Sheet.{Sheet}
use Rattle.sheets.specs.Sheets.{entries_of, contracts_of, sheet_in, are_sound_contracts}
use Rattle.sheets.proofs.Rest.{mapped}
use Rattle.sheets.proofs.Soundness.{full_entries, sound_by_tests}
use Rattle.sheets.proofs.sheet.Sheet.is_sound.Goals as goal
use Rattle.sheets.proofs.sheet.Sheet.is_sound.Goals.{Else-is_none}

-- a sheet is there by its count
counted : {A : Type 0} (none : Bool) (a : A) → not (is_some (cond none None (Some a))) ≡ none
counted true a = refl
counted false a = refl

by_count : (s : Sheet) → not (is_some (sheet_in s)) ≡ eqb s.count 0
unfolding sheet_in
by_count s = counted (eqb s.count 0) (contracts_of s)

has_some : (c : Else-is_none) → c.args.self.now.count ≡ 0 → ⊥
has_some c e =
    let z : ◌≡◌ {A = Bool} true false = sym (eq-eqb _ _ e) ∙ sym (by_count c.args.self.now) ∙ sym c.is_none.ensures ∙ c.if-is_none.false in
    cc

pub returns-then-is_none : goal.returns-then-is_none
unfolding sheet_in is_sound_sheet
returns-then-is_none c = rw (sym (by_count c.args.self.now) ∙ sym c.is_none.ensures ∙ c.if-is_none.true)

pub returns-then-self-gt-MAX_CONTRACTS : goal.returns-then-self-gt-MAX_CONTRACTS
unfolding sheet_in contracts_of is_sound_sheet ◌and◌
returns-then-self-gt-MAX_CONTRACTS c =
    simp (ne_eqb _ _ (has_some (goal.at.returns-then-self-gt-MAX_CONTRACTS c).Else-is_none), lt-leb _ _ c.if-self-gt-MAX_CONTRACTS.true)

-- by the tests of its contracts
by_tests : (p : ℕ) (s : Sheet) → length s.contracts ≡ 16 → (s.count ≡ 0 → ⊥) → s.count ≤ 16 → are_sound_contracts p (entries_of s) ≡ true
    → true ≡ is_sound_sheet p (sheet_in s)
by_tests p s long n l e = sym (sound_by_tests p s long n l ∙ e)

pub returns-then-are_plain : goal.returns-then-are_plain
returns-then-are_plain c =
    let full = full_entries c.args.self.now (search mapped) c.if-self-eq-MAX_CONTRACTS.true in
    by_tests _ c.args.self.now (search mapped) (has_some (goal.at.returns-then-are_plain c).Else-is_none) c.if-self-gt-MAX_CONTRACTS.false
    (rw full (c.are_plain.ensures c.if-are_plain.true))

pub returns-then-are_plain-2 : goal.returns-then-are_plain-2
returns-then-are_plain-2 c =
    by_tests _ c.args.self.now (search mapped) (has_some (goal.at.returns-then-are_plain-2 c).Else-is_none) c.if-self-gt-MAX_CONTRACTS.false
    (rw (← c.entries.ensures) (c.are_plain-else-self-eq-MAX_CONTRACTS.ensures c.if-are_plain-2.true))

pub returns : goal.returns
returns c = rw (sound_by_tests _ c.args.self.now (search mapped) (has_some (goal.at.returns c).Else-is_none) c.if-self-gt-MAX_CONTRACTS.false) c.are_sound.ensures
