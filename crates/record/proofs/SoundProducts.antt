-- A product is sound as it is founded, and stays sound as it is opened, filed and ended.
use Prim.Native.Nat.{ℕ, ◌≤◌}
use mathlib.Core.Path.{◌≡◌, refl}
use mathlib.Core.Bool.{Bool, true, false, cond}
use Rattle.std.specs.Prelude.{Option, Some}
use native.Mathlib.Omega.{arith}
use lib.Dec.{eqb}
use lib.ListN.{length}
use borrow.Author.Tests.{ltb-true, lt-ltb, leb-true, eqb-true, eq-eqb}
use Rattle.std.specs.Prelude.{sum}
use Rattle.grain.specs.Products.{is_product}
use Rattle.grain.specs.Prices.{is_settlement}
use Rattle.grain.specs.Amounts.{expanded_of, season_of, is_fit_amount, is_fit_founding}
use Rattle.grain.proofs.Tests.{and_left, and_right, both}
use Rattle.grain.proofs.Sums.{sum_small}
use Rattle.grain.proofs.Fits.{fit_facts, expanded_fit, season_fit, founding_fit}
use Rattle.record.specs.State.{Day, Sheet, Product, Common, sheet_or}
use Rattle.record.specs.Founding.{Start, limit_of, found_product}
use Rattle.record.specs.Opening.{is_renewed, is_other_season, open_product}
use Rattle.record.specs.Sheet.{file_product}
use Rattle.record.specs.Window.{collected_month, window_after}
use Rattle.record.specs.End.{Event, is_raised, end_product}
use Rattle.record.specs.Sound.{is_sound_sheet, is_sound_window, is_sound_product}
use Rattle.record.proofs.SoundSheets.{sheet_settlements}
use Rattle.record.proofs.SoundWindows.{holds, holds_none, holds_emptied, holds_after}

-- I and E of product n
pub record Limits (n i e : ℕ) : Type 0 where
  pub fit : is_fit_amount n i ≡ true
  pub expanded : e ≡ expanded_of n i

-- what soundness says of a product, test by test
pub record Facts (q : Product) : Type 0 where
  pub number : is_product q.number ≡ true
  pub limits : Limits q.number q.initial_limit q.expanded_limit
  pub window : holds (is_settlement q.number) q.window ≡ true
  pub today : is_sound_sheet q.number q.today ≡ true
  pub last : is_sound_sheet q.number q.last ≡ true

pub facts : (q : Product) → is_sound_product q ≡ true → Facts q
unfolding is_sound_product is_sound_window
facts q t =
    let t₅ = and_left _ _ t in
    let t₄ = and_left _ _ t₅ in
    let t₃ = and_left _ _ t₄ in
    let t₂ = and_left _ _ t₃ in
    record {
      number = and_left _ _ t₂;
      limits = record { fit = and_right _ _ t₂; expanded = eqb-true _ _ (and_right _ _ t₃) };
      window = and_right _ _ t₄;
      today = and_right _ _ t₅;
      last = and_right _ _ t;
    }

facts_sound : (q : Product) → Facts q → is_sound_product q ≡ true
unfolding is_sound_product is_sound_window
facts_sound q f =
    both _ _
    (both _ _
    (both _ _
    (both _ _ (both _ _ f.number f.limits.fit) (eq-eqb _ _ f.limits.expanded))
    f.window)
    f.today)
    f.last

pub found_sound : (s : Start) (p : ℕ) → is_fit_founding p (limit_of s p) ≡ true → is_sound_product (found_product s p) ≡ true
unfolding found_product is_sound_sheet
found_sound s p t =
    let fit = founding_fit p (limit_of s p) t in
    facts_sound _
    record {
      number = lt-ltb _ _ (fit_facts 2000000 p (limit_of s p) fit).product;
      limits = record { fit = fit; expanded = refl };
      window = holds_none _;
      today = refl;
      last = refl;
    }

window_sum : (q : Product) → Facts q → sum q.window ≤ 45000000
window_sum q f =
    let short : length q.window ≤ 45 = leb-true _ _ (and_left _ _ f.window) in
    let small = sum_small q.number q.window (and_right _ _ f.window) in
    omega arith

-- the season limit, and the expanded limit afresh
renewed : (q : Product) (b : Bool) → Facts q
    → let i = cond b (season_of q.number q.window) q.initial_limit in
    Limits q.number i (cond b (expanded_of q.number i) q.expanded_limit)
renewed q true f =
    record { fit = season_fit q.number (sum q.window) (ltb-true _ _ f.number) (window_sum q f); expanded = refl }
renewed q false f = f.limits

pub open_sound : (c : Common) (d : Day) (q : Product) → is_sound_product q ≡ true → is_sound_product (open_product c d q) ≡ true
unfolding open_product
open_sound c d q t =
    let f = facts q t in
    facts_sound _
    record {
      number = f.number;
      limits = renewed q (is_renewed c d q) f;
      window = holds_emptied _ (is_other_season c.opened d) q.window f.window;
      today = f.today;
      last = f.last;
    }

-- today's sheet, of product p alone
filed : (n p : ℕ) (s : Sheet) (o : Option Sheet) → is_sound_sheet p (Some s) ≡ true → is_sound_sheet n o ≡ true
    → is_sound_sheet n (cond (eqb n p) (Some s) o) ≡ true
filed n p s o t u = go (eqb n p) refl
  where
    go : (b : Bool) → eqb n p ≡ b → is_sound_sheet n (cond b (Some s) o) ≡ true
    go true e = rw (eqb-true n p e) t
    go false e = u

pub file_sound : (p : ℕ) (s : Sheet) → is_sound_sheet p (Some s) ≡ true → (q : Product) → is_sound_product q ≡ true
    → is_sound_product (file_product p s q) ≡ true
unfolding file_product
file_sound p s u q t =
    let f = facts q t in
    facts_sound _
    record {
      number = f.number;
      limits = f.limits;
      window = f.window;
      today = filed q.number p s q.today u f.today;
      last = f.last;
    }

-- the old expanded limit, and the expanded limit afresh
raised : (q : Product) (b : Bool) → Facts q
    → Limits q.number (cond b q.expanded_limit q.initial_limit)
    (cond b (expanded_of q.number q.expanded_limit) q.expanded_limit)
raised q true f =
    record {
      fit = rw f.limits.expanded (expanded_fit q.number q.initial_limit f.limits.fit);
      expanded = refl;
    }
raised q false f = f.limits

pub end_sound : (d : Day) (e : Event) (q : Product) → is_sound_product q ≡ true → is_sound_product (end_product d e q) ≡ true
unfolding end_product window_after is_sound_sheet
end_sound d e q t =
    let f = facts q t in
    facts_sound _
    record {
      number = f.number;
      limits = raised q (is_raised e) f;
      window =
          holds_after _ q.window (sheet_or q.today) (collected_month d q.number) f.window
          (sheet_settlements q.number q.today f.today);
      today = refl;
      last = f.today;
    }
