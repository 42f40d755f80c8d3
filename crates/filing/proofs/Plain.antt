-- A sheet that is plainly after a sound one passes every test of its contracts.
use Prim.Native.Nat.{ℕ, zero, suc, ◌<◌, ◌≤◌}
use mathlib.Core.Path.{◌≡◌, refl, sym, ◌∙◌}
use mathlib.Core.Bool.{Bool, true, false, ◌&&◌}
use mathlib.Core.List.{List, [], ◌∷◌}
use native.Mathlib.Omega.{arith}
use lib.Dec.{ltb, leb}
use lib.ListN.{length, get_or}
use borrow.Author.Tests.{ltb-true, le-leb, le-ltb, eq-eqb, ne_eqb}
use Rattle.std.specs.Prelude.{Option, Some, None}
use Rattle.std.specs.List.{list_any, slice_get}
use Rattle.std.proofs.lemmas.List.Elements.{AllZip-get_or, length_all_zip}
use Rattle.grain.specs.Lists.{◌and◌, every, is_ascending}
use Rattle.grain.specs.Products.{is_traded}
use Rattle.grain.specs.Prices.{is_settlement}
use Rattle.grain.proofs.Tests.{&&-left, &&-right, and_left, and_right, both}
use Rattle.record.specs.declared.Contract.{Contract}
use Rattle.record.specs.Refusals.{first}
use Rattle.record.specs.State.{day_of, trade_date, group_of, group_at, todays_limit, settlement_on, sheet_or}
use Rattle.record.specs.Sheet.{is_absent, has_moved_beyond, has_bad_month, lacks_contract, is_beyond}
use Rattle.record.specs.Sound.{is_sound, is_sound_product, is_sound_sheet}
use Rattle.sheets.specs.Sheets.{no_contract, entries_of, months_of, settlements_of, sheet_in}
use Rattle.filing.specs.Plain.{IsPlainlyAfter, PlainlyAfter}
use Rattle.sheets.proofs.Rest.{counted}
use Rattle.book.specs.declared.Book.{Book}
use Rattle.book.specs.Book.{last_in, view_product, view}
use Rattle.book.proofs.SheetsIn.{sheet_contracts}
use Rattle.book.proofs.SoundFacts.{product_sound, last_fits}
use Rattle.filing.specs.Files.{contract_tests}
use Rattle.filing.proofs.Contracts.{late_is}

-- ---- months that ascend
-- a later contract's month is after the first one's
first_least : (c : Contract) (cs : List Contract) (j : ℕ) → is_ascending (months_of (c ∷ cs)) ≡ true → j < length cs → c.month < (get_or cs j no_contract).month
unfolding is_ascending
first_least c [] j e h = absurd (omega (arith, h))
first_least c (d ∷ cs) zero e h = ltb-true _ _ (&&-left (ltb c.month d.month) (is_ascending (months_of (d ∷ cs))) e)
first_least c (d ∷ cs) (suc j) e h =
    let next : c.month < d.month = ltb-true _ _ (&&-left (ltb c.month d.month) (is_ascending (months_of (d ∷ cs))) e) in
    let later = first_least d cs j (&&-right (ltb c.month d.month) (is_ascending (months_of (d ∷ cs))) e) (omega (arith, h)) in
    omega (arith, next, later)

rest_ascends : (c : Contract) (cs : List Contract) → is_ascending (months_of (c ∷ cs)) ≡ true → is_ascending (months_of cs) ≡ true
unfolding is_ascending
rest_ascends c [] e = refl
rest_ascends c (d ∷ cs) e = &&-right (ltb c.month d.month) (is_ascending (months_of (d ∷ cs))) e

-- so a month is found in its own place
found_at : (cs : List Contract) (j : ℕ) → is_ascending (months_of cs) ≡ true → j < length cs
    → settlement_on cs (get_or cs j no_contract).month ≡ Some (get_or cs j no_contract).settlement
found_at [] j e h = absurd (omega (arith, h))
found_at (c ∷ cs) zero e h = rw (eq-eqb c.month c.month refl)
found_at (c ∷ cs) (suc j) e h =
    let after = first_least c cs j e (omega (arith, h)) in
    rw (ne_eqb c.month (get_or cs j no_contract).month (λ is. absurd (omega (arith, is, after)))) (found_at cs j (rest_ascends c cs e) (omega (arith, h)))

-- and none is before a month where the first is not
none_before : (month : ℕ) (c : Contract) (cs : List Contract) → is_ascending (months_of (c ∷ cs)) ≡ true → month ≤ c.month
    → every (leb month) (months_of (c ∷ cs)) ≡ true
unfolding every is_ascending
none_before month c [] e l = both _ _ (le-leb _ _ l) refl
none_before month c (d ∷ cs) e l =
    let next : c.month < d.month = ltb-true _ _ (&&-left (ltb c.month d.month) (is_ascending (months_of (d ∷ cs))) e) in
    both _ _ (le-leb _ _ l) (none_before month d cs (&&-right (ltb c.month d.month) (is_ascending (months_of (d ∷ cs))) e) (omega (arith, next, l)))

-- ---- what one sheet plainly after another says
any_in_no_place : (f : Contract → Bool) (cs : List Contract) → ((j : ℕ) → j < length cs → f (get_or cs j no_contract) ≡ false) → list_any f cs ≡ false
any_in_no_place f [] h = refl
any_in_no_place f (c ∷ cs) h = rw (h 0 (omega arith)) (any_in_no_place f cs (λ j k. h (suc j) (omega (arith, k))))

and_never : (b : Bool) → b && false ≡ false
and_never true = refl
and_never false = refl

module _ (p limit : ℕ) where
  months_same : (last s : List Contract) → PlainlyAfter p limit last s → months_of s ≡ months_of last
  months_same [] [] a = refl
  months_same [] (c ∷ s) a = absurd a
  months_same (b ∷ last) [] a = absurd a
  months_same (b ∷ last) (c ∷ s) a = rw (a.0.month, months_same last s a.1)

  settled : (last s : List Contract) → PlainlyAfter p limit last s → every (is_settlement p) (settlements_of s) ≡ true
  unfolding every
  settled [] [] a = refl
  settled [] (c ∷ s) a = absurd a
  settled (b ∷ last) [] a = absurd a
  settled (b ∷ last) (c ∷ s) a = both _ _ a.0.settled (settled last s a.1)

  module _ (spot : ℕ → Bool) (last s : List Contract) (after : PlainlyAfter p limit last s) where
    at : (j : ℕ) → j < length last → IsPlainlyAfter p limit (get_or last j no_contract) (get_or s j no_contract)
    at j h = AllZip-get_or (IsPlainlyAfter p limit) last s j no_contract no_contract after h

    lacks_none : is_ascending (months_of s) ≡ true → lacks_contract spot last s ≡ false
    unfolding lacks_contract
    lacks_none e =
        any_in_no_place (is_absent spot s) last
        (λ j h. rw (sym (at j h).month, found_at s j e (omega (arith, h, length_all_zip _ last s after))) (and_never _))

    none_beyond : is_ascending (months_of last) ≡ true → is_beyond spot limit last s ≡ false
    unfolding is_beyond
    none_beyond e =
        any_in_no_place (has_moved_beyond spot limit last) s
        (λ j h.
        let k : j < length last = omega (arith, h, length_all_zip _ last s after) in
        rw ((at j k).month, found_at last j e k, le-ltb _ _ (at j k).near) (and_never _))

-- ---- the last ended sheet of a sound book
record MonthsInOrder (p : ℕ) (ms : List ℕ) : Type 0 where
  ascend : is_ascending ms ≡ true
  traded : every (is_traded p) ms ≡ true

-- also where there is no sheet
in_order : (p : ℕ) (o : Option (List Contract)) → is_sound_sheet p o ≡ true → MonthsInOrder p (months_of (sheet_or o))
unfolding is_sound_sheet every is_ascending
in_order p None t = record { ascend = refl; traded = refl }
in_order p (Some s) t = let u = and_left _ _ t in record { ascend = and_right _ _ (and_left _ _ u); traded = and_right _ _ u }

no_bad_month : (month p : ℕ) (ms : List ℕ) → MonthsInOrder p ms → every (leb month) ms ≡ true → has_bad_month month p ms ≡ false
unfolding has_bad_month ◌and◌
no_bad_month month p ms o from = rw (o.ascend, o.traded, from)

module _ (b : Book) (p : ℕ) (l : p < 8) (sound : is_sound (view b) ≡ true) where
  last_sound : is_sound_sheet p (sheet_in (last_in b p)) ≡ true
  unfolding is_sound_product view_product
  last_sound = and_right _ _ (product_sound b sound p l)

  last_in_order : MonthsInOrder p (months_of (entries_of (last_in b p)))
  last_in_order = rw (sheet_contracts (last_in b p) ∙ counted (last_in b p) (last_fits b sound p l)) at (in_order p (sheet_in (last_in b p)) last_sound)

  pub passes : (s : List Contract) (nearest : Contract) → Some nearest ≡ slice_get s 0 → (trade_date (day_of (view b).common)).month ≤ nearest.month
      → PlainlyAfter p (todays_limit (group_at (view b) (group_of p)) p) (entries_of (last_in b p)) s → first (contract_tests (view b) p s) ≡ None
  passes [] nearest e from after = cc
  passes (c ∷ s) nearest e from after =
      let limit = todays_limit (group_at (view b) (group_of p)) p in
      let last = entries_of (last_in b p) in
      let is : nearest ≡ c = cc in
      let o : MonthsInOrder p (months_of (c ∷ s)) = rw (months_same p limit last (c ∷ s) after) last_in_order in
      let bad = no_bad_month _ p _ o (none_before _ c s o.ascend (rw is at from)) in
      late_is b p (c ∷ s) l sound
      ∙ rw (bad, settled p limit last (c ∷ s) after, lacks_none p limit _ last (c ∷ s) after o.ascend, none_beyond p limit _ last (c ∷ s) after last_in_order.ascend)
