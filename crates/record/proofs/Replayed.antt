-- The Record after a list of calls is the replay of its history.
use Prim.Native.Nat.{ℕ}
use mathlib.Core.Path.{◌≡◌, refl, ap, ap₂, sym}
use mathlib.Core.Bool.{Bool, true, false, not, cond}
use mathlib.Core.List.{List, [], ◌∷◌}
use Rattle.std.specs.Prelude.{Option, Some, None}
use lib.Dec.{eqb}
use borrow.Author.Tests.{not-false}
use Rattle.record.specs.State.{Day, Sheet, Product, Group, Common, Record, with_edition, with_opened, with_is_open, with_products, with_today}
use Rattle.record.specs.Founding.{Start, founded}
use Rattle.record.specs.Opening.{open_group}
use Rattle.record.specs.Sheet.{contracts, file_product, file_group}
use Rattle.record.specs.Conversion.{conversion_tests}
use Rattle.record.specs.Record.{Change, opening, sheet, end, convert, Call, change, question, tests, refusal, answer, next, next_common, next_group, next_by, answer_by, respond, state_after, answers}
use Rattle.record.specs.History.{ProductSheet, Entry, a_day, a_conversion, add, add_by, history_by, kept_from, kept, sheet_among}
use Rattle.record.specs.Replay.{common_after, over, product_with, group_with, group_after, replay}
use Rattle.record.specs.Theorems.{after, history_of}
use Rattle.record.proofs.Maps.{map-map, map_same}
use Rattle.record.proofs.Cleared.{accepted_clear}

-- no sheet: nothing changes
with_none : (g : Group) → group_with [] g ≡ g
unfolding group_with product_with
with_none g = ap (λ qs. with_products qs g) (map_same (product_with []) (λ q. refl) g.products)

over-cond : (b : Bool) (s : Sheet) (o w : Option Sheet) → cond b (Some s) (over o w) ≡ over (cond b (Some s) o) w
over-cond true s o w = refl
over-cond false s o w = refl

-- a sheet more, of a product and of a group
module _ (f : ProductSheet) (fs : List ProductSheet) where
  filed_one : (q : Product) → file_product f.product f.sheet (product_with fs q) ≡ product_with (f ∷ fs) q
  unfolding product_with file_product
  filed_one q =
      ap (λ o. with_today o q)
      (over-cond (eqb q.number f.product) f.sheet (sheet_among fs q.number) q.today)

  filed_more : (g : Group) → file_group f.product f.sheet (group_with fs g) ≡ group_with (f ∷ fs) g
  unfolding group_with file_group
  filed_more g =
      ap (λ qs. with_products qs g)
      (map-map (file_product f.product f.sheet) (product_with fs) (product_with (f ∷ fs)) filed_one g.products)

abbrev with_groups : Common → List Group → Record
with_groups c l = record { common = c; groups = l }

module _ (r₀ : Record) where
  accept_opening : (d : Day) (es : List Entry) → next (replay es r₀) (opening d) ≡ replay (add (opening d) es) r₀
  unfolding next next_common next_group replay group_after
  accept_opening d es =
      ap (with_groups (common_after (add (opening d) es) r₀.common))
      (map-map (open_group (common_after es r₀.common) d) (group_after es r₀.common)
      (group_after (add (opening d) es) r₀.common)
      (λ g. sym (with_none (open_group (common_after es r₀.common) d (group_after es r₀.common g)))) r₀.groups)

  -- a sheet, on a day that is open
  sheet_on : (p : ℕ) (ms ss : List ℕ) (d : Day) (fs : List ProductSheet) (b : Bool) (es : List Entry) → not b ≡ true
      → let ks = a_day (record { day = d; sheets = fs; is_ended = b }) ∷ es in
      next (replay ks r₀) (sheet p ms ss) ≡ replay (add (sheet p ms ss) ks) r₀
  unfolding next next_common next_group replay group_after
  sheet_on p ms ss d fs true es e = cc
  sheet_on p ms ss d fs false es e =
      ap (with_groups (with_opened (Some d) (with_is_open true (common_after es r₀.common))))
      (map-map _ _ _ (λ g. filed_more (record { product = p; sheet = contracts ms ss }) _ _) r₀.groups)

  end_on : (d : Day) (fs : List ProductSheet) (b : Bool) (es : List Entry) → not b ≡ true
      → let ks = a_day (record { day = d; sheets = fs; is_ended = b }) ∷ es in
      next (replay ks r₀) end ≡ replay (add end ks) r₀
  unfolding next next_common next_group replay group_after
  end_on d fs true es e = cc
  end_on d fs false es e =
      ap (with_groups (with_opened (Some d) (with_is_open false (common_after es r₀.common))))
      (map-map _ _ _ (λ g. refl) r₀.groups)

  -- a conversion, with no day open
  accept_convert : (es : List Entry) → (common_after es r₀.common).is_open ≡ false
      → next (replay es r₀) convert ≡ replay (add convert es) r₀
  unfolding next next_common next_group replay group_after
  accept_convert es e =
      let c = common_after es r₀.common in
      ap₂ (λ b l. with_groups (with_edition 2023 (with_is_open b c)) l) e
      (map-map (next_group c convert) (group_after es r₀.common) (group_after (add convert es) r₀.common) (λ g. refl) r₀.groups)

-- a Record with no day open
unfoldable pub IsFresh : Record → Type 0
IsFresh r = r.common.is_open ≡ false

module _ (r₀ : Record) (f : IsFresh r₀) where
  accept_sheet : (p : ℕ) (ms ss : List ℕ) (es : List Entry) → (common_after es r₀.common).is_open ≡ true
      → next (replay es r₀) (sheet p ms ss) ≡ replay (add (sheet p ms ss) es) r₀
  unfolding IsFresh
  accept_sheet p ms ss [] o = cc
  accept_sheet p ms ss (a_conversion ∷ es) o = cc
  accept_sheet p ms ss (a_day k ∷ es) o = sheet_on r₀ p ms ss k.day k.sheets k.is_ended es o

  accept_end : (es : List Entry) → (common_after es r₀.common).is_open ≡ true → next (replay es r₀) end ≡ replay (add end es) r₀
  unfolding IsFresh
  accept_end [] o = cc
  accept_end (a_conversion ∷ es) o = cc
  accept_end (a_day k ∷ es) o = end_on r₀ k.day k.sheets k.is_ended es o

  accept_change : (c : Change) (es : List Entry) → refusal (replay es r₀) (change c) ≡ None → next (replay es r₀) c ≡ replay (add c es) r₀
  unfolding tests conversion_tests replay
  accept_change (opening d) es e = accept_opening r₀ d es
  accept_change (sheet p ms ss) es e = accept_sheet p ms ss es (not-false _ (accepted_clear (replay es r₀) (change (sheet p ms ss)) e).1.0)
  accept_change end es e = accept_end es (not-false _ (accepted_clear (replay es r₀) (change end) e).1.0)
  accept_change convert es e = accept_convert r₀ es (accepted_clear (replay es r₀) (change convert) e).1.0

  stepped : (c : Call) (es : List Entry)
      → (respond (replay es r₀) c).state ≡ replay (history_by (respond (replay es r₀) c).answer c es) r₀
  unfolding respond
  stepped (change c) es = go (refusal (replay es r₀) (change c)) refl
    where
      go : (o : Option ℕ) → refusal (replay es r₀) (change c) ≡ o
          → next_by o (replay es r₀) c ≡ replay (add_by (answer_by o (answer (replay es r₀) (change c))) c es) r₀
      go (Some n) e = refl
      go None e = accept_change c es e
  stepped (question q) es = refl

  replayed_from : (es : List Entry) (cs : List Call)
      → state_after (replay es r₀) cs ≡ replay (kept_from es cs (answers (replay es r₀) cs)) r₀
  unfolding state_after answers kept_from
  replayed_from es [] = refl
  replayed_from es (c ∷ cs) = rw (stepped c es) (replayed_from (history_by (respond (replay es r₀) c).answer c es) cs)

  nothing_yet : replay [] r₀ ≡ r₀
  unfolding replay group_after
  nothing_yet = ap (with_groups r₀.common) (map_same _ (λ g. refl) r₀.groups)

  replayed_fresh : (cs : List Call) → state_after r₀ cs ≡ replay (kept cs (answers r₀ cs)) r₀
  replayed_fresh cs = rw nothing_yet at (replayed_from [] cs)

founded_fresh : (s : Start) → IsFresh (founded s)
unfolding IsFresh founded
founded_fresh s = refl

pub replayed : (s : Start) (cs : List Call) → after s cs ≡ replay (history_of s cs) (founded s)
replayed s = replayed_fresh (founded s) (founded_fresh s)
