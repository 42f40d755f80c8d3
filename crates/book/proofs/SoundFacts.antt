-- What a sound book says of each product and of its date.
use Prim.Native.Nat.{ℕ, ◌<◌, ◌≤◌}
use mathlib.Core.Path.{◌≡◌, refl, sym, ◌∙◌}
use mathlib.Core.Bool.{Bool, true, false, cond}
use Rattle.std.specs.Prelude.{Some, None}
use native.Mathlib.Omega.{arith}
use lib.Dec.{leb, eqb}
use lib.ListN.{length}
use borrow.Author.Tests.{leb-true, leb-false, lt-leb, eqb-true, ne_eqb}
use Rattle.grain.specs.Lists.{◌and◌, every, is_ascending}
use Rattle.grain.specs.Products.{product_count}
use Rattle.grain.specs.Prices.{is_settlement}
use Rattle.grain.proofs.Tests.{and_left, and_right, both}
use Rattle.record.specs.declared.Day.{Day}
use Rattle.record.specs.State.{day_of}
use Rattle.record.specs.Edition.{is_edition}
use Rattle.record.specs.Opening.{is_true_day}
use Rattle.record.specs.Sound.{is_sound_sheet, is_sound_window, is_sound_product, is_sound_date, is_sound}
use Rattle.sheets.specs.declared.sheet.Sheet.{Sheet}
use Rattle.sheets.specs.Sheets.{contracts_of, sheet_in, months_of}
use Rattle.windows.specs.declared.Windows.{Windows}
use Rattle.windows.specs.Windows.{size_in, shown}
use Rattle.book.specs.Book.{window_of}
use Rattle.windows.proofs.Shown.{too_long}
use Rattle.book.specs.declared.Book.{Book}
use Rattle.book.specs.Book.{is_set, is_book, edition_in, opened_in, today_in, last_in, view_product, view_common, view}
use Rattle.book.proofs.SheetsIn.{none-listed}
use Rattle.book.proofs.ProductTests.{products_split}
use Rattle.book.proofs.Shown.{sound_is}
use Rattle.book.proofs.Numbers.{each_passes}

-- a sound sheet
beyond_unsound : (p : ℕ) (s : Sheet) → 16 < s.count → is_sound_sheet p (sheet_in s) ≡ false
unfolding is_sound_sheet sheet_in contracts_of ◌and◌
beyond_unsound p s l = rw (ne_eqb s.count 0 (omega arith), lt-leb s.count 16 l)

sheet_fits : (p : ℕ) (s : Sheet) → is_sound_sheet p (sheet_in s) ≡ true → s.count ≤ 16
sheet_fits p s t = go (leb s.count 16) refl
  where
    go : (b : Bool) → leb s.count 16 ≡ b → s.count ≤ 16
    go true e = leb-true _ _ e
    go false e =
        let z : ◌≡◌ {A = Bool} false true = sym (beyond_unsound p s (leb-false _ _ e)) ∙ t in
        leb-true s.count 16 cc

sheet_ascending : (p : ℕ) (s : Sheet) → is_sound_sheet p (sheet_in s) ≡ true → is_ascending (months_of (contracts_of s)) ≡ true
unfolding is_sound_sheet sheet_in is_ascending
sheet_ascending p s t = go (eqb s.count 0) refl t
  where
    go : (b : Bool) → eqb s.count 0 ≡ b → is_sound_sheet p (cond b None (Some (contracts_of s))) ≡ true
        → is_ascending (months_of (contracts_of s)) ≡ true
    go true e t = rw (none-listed s (eqb-true _ _ e))
    go false e t = and_right _ _ (and_left _ _ (and_left _ _ t))

-- a sound window
window_fits : (ws : Windows) (p : ℕ) → leb (length (shown ws p)) 45 ≡ true → size_in ws p ≤ 45
window_fits ws p t = go (leb (size_in ws p) 45) refl
  where
    go : (b : Bool) → leb (size_in ws p) 45 ≡ b → size_in ws p ≤ 45
    go true e = leb-true _ _ e
    go false e =
        let long = too_long ws p (leb-false _ _ e) in
        let fits : length (shown ws p) ≤ 45 = leb-true _ _ t in
        absurd (omega arith)

-- of one product, test by test
record Facts (b : Book) (p : ℕ) : Type 0 where
  short : leb (length (window_of b p)) 45 ≡ true
  window : every (is_settlement p) (window_of b p) ≡ true
  today : is_sound_sheet p (sheet_in (today_in b p)) ≡ true
  last : is_sound_sheet p (sheet_in (last_in b p)) ≡ true

facts : (b : Book) (p : ℕ) → is_sound_product (view_product b p) ≡ true → Facts b p
unfolding is_sound_product is_sound_window view_product
facts b p t =
    let t₅ = and_left _ _ t in
    let w = and_right _ _ (and_left _ _ t₅) in
    record { short = and_left _ _ w; window = and_right _ _ w; today = and_right _ _ t₅; last = and_right _ _ t }

module _ (b : Book) (sound : is_sound (view b) ≡ true) where
  date_sound : is_sound_date (opened_in b) (is_set b.is_open) ≡ true
  date_sound = and_right _ _ (and_left _ _ (and_left _ _ (and_left _ _ (sym (sound_is b) ∙ sound))))

  module _ (p : ℕ) (l : p < product_count) where
    pub product_sound : is_sound_product (view_product b p) ≡ true
    product_sound =
        let t = and_right _ _ (and_left _ _ (and_left _ _ (sym (sound_is b) ∙ sound))) in
        let each = products_split b ∙ both _ _ (and_right _ _ (and_left _ _ t)) (and_right _ _ t) in
        each_passes (λ p. is_sound_product (view_product b p)) product_count p each l

    pub today_fits : (today_in b p).count ≤ 16
    today_fits = sheet_fits p (today_in b p) (facts b p product_sound).today

    pub last_fits : (last_in b p).count ≤ 16
    last_fits = sheet_fits p (last_in b p) (facts b p product_sound).last

    pub size_fits : size_in b.windows p ≤ 45
    size_fits = window_fits b.windows p (facts b p product_sound).short

    pub window_settlements : every (is_settlement p) (window_of b p) ≡ true
    window_settlements = (facts b p product_sound).window

    -- also where no sheet is in
    pub today_ascending : is_ascending (months_of (contracts_of (today_in b p))) ≡ true
    today_ascending = sheet_ascending p (today_in b p) (facts b p product_sound).today

  -- it is a book of this format, and its edition is one of the rule
  of_edition : is_edition (edition_in b) ≡ true
  of_edition = and_left _ _ (and_left _ _ (and_left _ _ (and_left _ _ (sym (sound_is b) ∙ sound))))

  pub book_sound : is_book b ≡ true
  unfolding edition_in
  book_sound = no_edition (is_book b) of_edition
    where
      no_edition : (x : Bool) → is_edition (cond x b.edition 0) ≡ true → x ≡ true
      no_edition true t = refl
      no_edition false t = let z : ◌≡◌ {A = Bool} false true = t in cc

  pub edition_is : edition_in b ≡ b.edition
  unfolding edition_in
  edition_is = rw book_sound

  -- a day is open only where there is one
  pub open_day : is_set b.is_open ≡ true → opened_in b ≡ None → ⊥
  unfolding is_sound_date
  open_day is none = let z : ◌≡◌ {A = Bool} false true = rw (none, is) at date_sound in cc

  pub true_day : (d : Day) → opened_in b ≡ Some d → is_true_day d ≡ true
  unfolding is_sound_date
  true_day d e = rw e at date_sound

-- the day of the view
pub day_in : (b : Book) (d : Day) → opened_in b ≡ Some d → day_of (view b).common ≡ d
unfolding view view_common
day_in b d e = rw e
