-- A sheet past the tests before its contracts, and the book that holds it.
use Prim.Native.Nat.{ℕ, ◌<◌, ◌≤◌}
use mathlib.Core.Path.{◌≡◌, refl, sym, ◌∙◌, ap}
use mathlib.Core.Bool.{Bool, true, false, not, ◌||◌, cond}
use mathlib.Core.List.{List, [], ◌∷◌, ◌++◌}
use Rattle.std.specs.Prelude.{Option, Some, None}
use Rattle.std.specs.Option.{option_or}
use native.Mathlib.Omega.{arith}
use lib.Dec.{ltb, eqb}
use lib.ListN.{length, set}
use lib.Seq.{take_all, get_or-set_same, get_or-set_other}
use borrow.Author.Tests.{not-false, eqb-true, eqb-false, ltb-true, ltb-false, ne_eqb}
use Rattle.grain.specs.Refusals.{bad_price}
use Rattle.grain.proofs.Tests.{neither}
use Rattle.record.specs.declared.Contract.{Contract}
use Rattle.record.specs.Refusals.{Test, when, first, bad_month, contract_absent, beyond_limit}
use Rattle.record.specs.State.{Record, day_of, month_of, is_spot_on, group_of, group_at, product_in, todays_limit, sheet_or}
use Rattle.record.specs.Sheet.{contracts, is_misshapen, has_bad_month, has_bad_settlement, lacks_contract, is_beyond, sheet_tests, file_product, file_group}
use Rattle.record.specs.Record.{sheet, change, tests, refusal, next, next_common, next_group}
use Rattle.record.proofs.Cleared.{cleared}
use Rattle.sheets.specs.declared.sheet.Sheet.{Sheet}
use Rattle.sheets.specs.Sheets.{entries_of, sheet_in, months_of, settlements_of, SheetOf}
use Rattle.sheets.proofs.Rest.{counted}
use Rattle.sheets.proofs.Fills.{contracts-length}
use Rattle.book.specs.declared.Book.{Book}
use Rattle.book.specs.Book.{no_sheet, is_book, edition_in, opened_in, view_product, view_group, view_common, view}
use Rattle.book.specs.Phase.{phase_refusal}
use Rattle.book.proofs.Phases.{refused_early, decided_late}
use Rattle.book.proofs.Views.{group_view, next-view}
use Rattle.filing.specs.Files.{early_tests, contract_tests}

-- ---- the two arrays
pub record Shape (ms ss : List ℕ) : Type 0 where
  pub same : length ss ≡ length ms
  pub some_contract : length ms ≡ 0 → ⊥
  pub fits : length ms ≤ 16

pub shape : (ms ss : List ℕ) → is_misshapen ms ss ≡ false → Shape ms ss
unfolding is_misshapen
shape ms ss e =
    let outer = neither (not (eqb (length ms) (length ss)) || eqb (length ms) 0) (ltb 16 (length ms)) e in
    let inner = neither (not (eqb (length ms) (length ss))) (eqb (length ms) 0) outer.0 in
    record {
      same = sym (eqb-true (length ms) (length ss) (not-false _ inner.0));
      some_contract = eqb-false (length ms) 0 inner.1;
      fits = ltb-false 16 (length ms) outer.1;
    }

months_are : (ms ss : List ℕ) → length ss ≡ length ms → months_of (contracts ms ss) ≡ ms
months_are [] ss e = refl
months_are (m ∷ ms) [] e = absurd (omega arith)
months_are (m ∷ ms) (s ∷ ss) e = ap (λ (l : List ℕ). m ∷ l) (months_are ms ss (omega arith))

settlements_are : (ms ss : List ℕ) → length ss ≡ length ms → settlements_of (contracts ms ss) ≡ ss
settlements_are [] [] e = refl
settlements_are [] (s ∷ ss) e = absurd (omega arith)
settlements_are (m ∷ ms) [] e = absurd (omega arith)
settlements_are (m ∷ ms) (s ∷ ss) e = ap (λ (l : List ℕ). s ∷ l) (settlements_are ms ss (omega arith))

-- the sheet that two arrays of a good shape make
pub record Made (ms ss : List ℕ) (s : Sheet) : Type 0 where
  pub count : s.count ≡ length ms
  pub entries : entries_of s ≡ contracts ms ss

pub made : (ms ss : List ℕ) (s : Sheet) → SheetOf ms ss s → Shape ms ss → Made ms ss s
made ms ss s of e =
    let as_long : length (contracts ms ss) ≡ length ms = omega (arith, contracts-length ms ss, e.same) in
    let all = take_all 16 (contracts ms ss) (omega (arith, e.fits)) in
    record { count = of.count ∙ ap length all ∙ as_long; entries = of.entries ∙ all }

-- ---- the refusals in two parts
first_joined : (l m : List Test) → first (l ++ m) ≡ option_or (first l) (first m)
first_joined [] m = refl
first_joined (t ∷ l) m = go t.applies (first_joined l m)
  where
    go : (b : Bool) → first (l ++ m) ≡ option_or (first l) (first m)
        → cond b (Some t.number) (first (l ++ m)) ≡ option_or (cond b (Some t.number) (first l)) (first m)
    go true e = refl
    go false e = e

module _ (r : Record) (p : ℕ) (ms ss : List ℕ) where
  later : List Test
  later =
      let d = day_of r.common in
      let g = group_at r (group_of p) in
      when (has_bad_month (month_of d) p ms) bad_month
      ∷ when (has_bad_settlement p ss) bad_price
      ∷ when (lacks_contract (is_spot_on d) (sheet_or (product_in g p).last) (contracts ms ss)) contract_absent
      ∷ when (is_beyond (is_spot_on d) (todays_limit g p) (sheet_or (product_in g p).last) (contracts ms ss)) beyond_limit
      ∷ []

  own_tests : List Test
  own_tests = early_tests r p ms ss ++ later

  -- refused by the first two tests
  pub phase_refuses : (n : ℕ) → phase_refusal true r ≡ Some n → refusal r (change (sheet p ms ss)) ≡ Some n
  unfolding refusal tests sheet_tests own_tests later
  phase_refuses n e = refused_early r (not r.common.is_open) n own_tests e

  module _ (past : None ≡ phase_refusal true r) where
    refusal_is : refusal r (change (sheet p ms ss)) ≡ option_or (first (early_tests r p ms ss)) (first later)
    unfolding refusal tests sheet_tests own_tests later
    refusal_is = decided_late r (not r.common.is_open) own_tests (sym past) ∙ first_joined (early_tests r p ms ss) later

    pub early_refuses : (n : ℕ) → first (early_tests r p ms ss) ≡ Some n → refusal r (change (sheet p ms ss)) ≡ Some n
    early_refuses n e = refusal_is ∙ ap (λ (o : Option ℕ). option_or o (first later)) e

    contracts_refuse : first (early_tests r p ms ss) ≡ None → length ss ≡ length ms
        → refusal r (change (sheet p ms ss)) ≡ first (contract_tests r p (contracts ms ss))
    unfolding later
    contracts_refuse e same =
        refusal_is
        ∙ ap (λ (o : Option ℕ). option_or o (first later)) e
        ∙ sym (rw (months_are ms ss same, settlements_are ms ss same))

-- what the early tests say where none applies
pub record Early (b : Book) (p : ℕ) (ms ss : List ℕ) : Type 0 where
  pub passed : first (early_tests (view b) p ms ss) ≡ None
  pub product : p < 8
  pub arrays : Shape ms ss

pub early : (b : Book) (p : ℕ) (ms ss : List ℕ) → first (early_tests (view b) p ms ss) ≡ None → Early b p ms ss
early b p ms ss e =
    let c = cleared (early_tests (view b) p ms ss) e in
    record { passed = e; product = ltb-true p 8 (not-false _ c.0); arrays = shape ms ss c.1.1.0 }

-- past them, the tests over the contracts decide
pub refusal_late : (b : Book) (p : ℕ) (ms ss : List ℕ) (s : Sheet) → None ≡ phase_refusal true (view b) → Early b p ms ss → Made ms ss s
    → refusal (view b) (change (sheet p ms ss)) ≡ first (contract_tests (view b) p (entries_of s))
refusal_late b p ms ss s past e is =
    contracts_refuse (view b) p ms ss past e.passed e.arrays.same
    ∙ sym (ap (λ (cs : List Contract). first (contract_tests (view b) p cs)) is.entries)

-- ---- the book with the sheet in
abbrev pub filed_book : Book → ℕ → Sheet → Book
filed_book b p s = record b { today = set b.today p s }

pub sheet_in_lem : (s : Sheet) (cs : List Contract) → (s.count ≡ 0 → ⊥) → s.count ≤ 16 → entries_of s ≡ cs → sheet_in s ≡ Some cs
unfolding sheet_in
sheet_in_lem s cs n l e = rw (ne_eqb s.count 0 n, counted s l, e)

module _ (b : Book) (p : ℕ) (s : Sheet) (ms ss : List ℕ) (l : p < length b.today) (e : sheet_in s ≡ Some (contracts ms ss)) where
  product_after : (q : ℕ) → view_product (filed_book b p s) q ≡ file_product p (contracts ms ss) (view_product b q)
  unfolding view_product file_product
  product_after q = go (eqb q p) refl
    where
      go : (same : Bool) → eqb q p ≡ same → view_product (filed_book b p s) q ≡ file_product p (contracts ms ss) (view_product b q)
      go true h = rw (h, eqb-true q p h, get_or-set_same b.today p s no_sheet l, e)
      go false h = rw (h, get_or-set_other b.today p q s no_sheet (eqb-false q p h))

  pub filed_view : view (filed_book b p s) ≡ next (view b) (sheet p ms ss)
  unfolding view_common edition_in is_book opened_in next_common next_group file_group view_group
  filed_view =
      next-view b (filed_book b p s) (sheet p ms ss) refl
      (λ g h. rw (group_view b (filed_book b p s) (file_product p (contracts ms ss)) g h (λ q k. product_after q)))
