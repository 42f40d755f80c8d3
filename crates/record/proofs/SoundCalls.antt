-- An accepted change leaves a sound Record sound.
use Prim.Native.Nat.{ℕ}
use mathlib.Core.Path.{◌≡◌, refl, ap, ◌∙◌}
use mathlib.Core.Bool.{Bool, true, false, not, ◌||◌}
use mathlib.Core.List.{List, map}
use Rattle.std.specs.Prelude.{Option, Some, None, is_some}
use borrow.Author.Tests.{not-false}
use Rattle.std.specs.List.{list_any}
use Rattle.grain.specs.Lists.{◌and◌, every}
use Rattle.grain.proofs.Tests.{and_left, and_right, both}
use Rattle.grain.proofs.Every.{every_map, every_mapped, every_unless}
use Rattle.record.specs.State.{Day, Sheet, Product, Group, Common, Record, day_of, month_of}
use Rattle.record.specs.Edition.{is_edition}
use Rattle.record.specs.Opening.{is_true_day, opening_tests, open_product, open_group}
use Rattle.record.specs.Sheet.{contracts, sheet_tests, file_product, file_group}
use Rattle.record.specs.End.{group_event, end_product, end_group}
use Rattle.record.specs.Sound.{is_sound_sheet, is_sound_product, is_sound_group, is_sound_date, every_product, has_no_sheet_in, has_last, has_no_last, is_sound}
use Rattle.record.specs.Record.{Change, opening, sheet, end, convert, change, is_outstanding, tests, next_common, next_group, next}
use Rattle.record.proofs.Cleared.{Clear}
use Rattle.record.proofs.Maps.{map_same}
use Rattle.record.proofs.SoundSheets.{sheet_passed}
use Rattle.record.proofs.SoundGroups.{open_group_lem, file_group_lem, end_group_lem, sound_under2023}

-- what soundness says of the Record, test by test
pub record Facts (r : Record) : Type 0 where
  pub edition : is_edition r.common.edition ≡ true
  pub date : is_sound_date r.common.opened r.common.is_open ≡ true
  pub groups : every (is_sound_group r.common.edition) r.groups ≡ true
  pub resting : r.common.is_open || every_product has_no_sheet_in r.groups ≡ true
  pub lasts : (is_some r.common.opened and every_product has_last r.groups) || every_product has_no_last r.groups ≡ true

pub facts : (r : Record) → is_sound r ≡ true → Facts r
unfolding is_sound
facts r t =
    let t₃ = and_left _ _ t in
    let t₂ = and_left _ _ t₃ in
    let t₁ = and_left _ _ t₂ in
    record {
      edition = and_left _ _ t₁;
      date = and_right _ _ t₁;
      groups = and_right _ _ t₂;
      resting = and_right _ _ t₃;
      lasts = and_right _ _ t;
    }

pub facts_sound : (r : Record) → Facts r → is_sound r ≡ true
unfolding is_sound
facts_sound r f = both _ _ (both _ _ (both _ _ (both _ _ f.edition f.date) f.groups) f.resting) f.lasts

-- a change of the products that leaves their last ended sheets
module _ (k : Group → Group) (m : Product → Product) (changes : (g : Group) → (k g).products ≡ map m g.products)
    (leaves : (q : Product) → (m q).last ≡ q.last) where
  lasts_left : (f : Option Sheet → Bool) (gs : List Group)
      → every_product (λ q. f q.last) (map k gs) ≡ every_product (λ q. f q.last) gs
  lasts_left f =
      every_mapped _ k _
      (λ g. ap (every (λ q. f q.last)) (changes g) ∙ every_mapped _ m _ (λ q. ap f (leaves q)) g.products)

-- all last ended sheets or none, with a date more
dated : (a b c : Bool) → (a and b) || c ≡ true → (true and b) || c ≡ true
unfolding ◌and◌
dated true b c t = t
dated false true c t = refl
dated false false c t = t

opened_sound : (r : Record) (d : Day) → is_true_day d ≡ true → Facts r → Facts (next r (opening d))
unfolding next next_common next_group open_group open_product is_sound_date
opened_sound r d t f =
    let c = r.common in
    let left = lasts_left (open_group c d) (open_product c d) (λ g. refl) (λ q. refl) in
    record {
      edition = f.edition;
      date = t;
      groups = every_map _ (open_group c d) (is_sound_group c.edition) (open_group_lem c d) r.groups f.groups;
      resting = refl;
      lasts =
          rw (left is_some r.groups, left (λ o. not (is_some o)) r.groups) (dated (is_some c.opened) _ _ f.lasts);
    }

filed_sound : (r : Record) (p : ℕ) (ms ss : List ℕ) → r.common.is_open ≡ true → is_sound_sheet p (Some (contracts ms ss)) ≡ true
    → Facts r → Facts (next r (sheet p ms ss))
unfolding next next_common next_group file_group file_product
filed_sound r p ms ss o u f =
    let s = contracts ms ss in
    let left = lasts_left (file_group p s) (file_product p s) (λ g. refl) (λ q. refl) in
    record {
      edition = f.edition;
      date = f.date;
      groups = every_map _ (file_group p s) (is_sound_group r.common.edition) (file_group_lem r.common.edition p s u) r.groups f.groups;
      resting = rw o;
      lasts = rw (left is_some r.groups, left (λ o. not (is_some o)) r.groups) f.lasts;
    }

-- an open day was opened, and to close it needs nothing
pub open_opened : (o : Option Day) (b : Bool) → is_sound_date o b ≡ true → b ≡ true → is_some o ≡ true
unfolding is_sound_date
open_opened None true t e = t
open_opened None false t e = e
open_opened (Some d) b t e = refl

closed : (o : Option Day) (b : Bool) → is_sound_date o b ≡ true → is_sound_date o false ≡ true
unfolding is_sound_date
closed None b t = refl
closed (Some d) b t = t

-- after an end no sheet is in, and every product has a last ended one
end_rests : (c : Common) (g : Group) → is_sound_group c.edition g ≡ true → every has_no_sheet_in (end_group c g).products ≡ true
unfolding is_sound_group end_group end_product
end_rests c g t =
    every_map is_sound_product (end_product (day_of c) (group_event c g)) has_no_sheet_in (λ q u. refl) g.products (and_right _ _ t)

end_lasts : (c : Common) (g : Group) → is_outstanding g ≡ false → every has_last (end_group c g).products ≡ true
unfolding is_outstanding end_group end_product
end_lasts c g t =
    every_unless _ (end_product (day_of c) (group_event c g)) has_last (λ q u. not-false _ u) g.products t

ended_sound : (r : Record) → r.common.is_open ≡ true → list_any is_outstanding r.groups ≡ false → Facts r → Facts (next r end)
unfolding next next_common next_group
ended_sound r o n f =
    let c = r.common in
    let lasts : every_product has_last (map (end_group c) r.groups) ≡ true = every_unless _ (end_group c) _ (end_lasts c) r.groups n in
    record {
      edition = f.edition;
      date = closed c.opened c.is_open f.date;
      groups = every_map _ (end_group c) (is_sound_group c.edition) (end_group_lem c) r.groups f.groups;
      resting = every_map _ (end_group c) _ (end_rests c) r.groups f.groups;
      lasts = rw (both _ _ (open_opened c.opened c.is_open f.date o) lasts);
    }

converted_sound : (r : Record) → Facts r → Facts (next r convert)
unfolding next next_common next_group
converted_sound r f =
    let left = map_same (next_group r.common convert) (λ g. refl) r.groups in
    record {
      edition = refl;
      date = f.date;
      groups = every_map _ (next_group r.common convert) _ (sound_under2023 r.common.edition) r.groups f.groups;
      resting = rw left f.resting;
      lasts = rw left f.lasts;
    }

-- each test is read by its place in the call's order
pub accepted_sound : (r : Record) (c : Change) → Clear (tests r (change c)) → is_sound r ≡ true → is_sound (next r c) ≡ true
unfolding tests opening_tests sheet_tests
accepted_sound r (opening d) e t = facts_sound _ (opened_sound r d (not-false _ e.1.0) (facts r t))
accepted_sound r (sheet p ms ss) e t =
    facts_sound _
    (filed_sound r p ms ss (not-false _ e.0)
    (sheet_passed (month_of (day_of r.common)) p ms ss e.1.1.1.0 e.1.1.1.1.0 e.1.1.1.1.1.0) (facts r t))
accepted_sound r end e t = facts_sound _ (ended_sound r (not-false _ e.0) e.1.0 (facts r t))
accepted_sound r convert e t = facts_sound _ (converted_sound r (facts r t))
