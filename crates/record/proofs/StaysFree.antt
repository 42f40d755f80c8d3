-- A contract month that is spot stays so on every later opened day, as the left falls within a month: no later check of it is limited.
use Prim.Native.Nat.{ℕ, ◌<◌, ◌≤◌}
use mathlib.Core.Path.{◌≡◌, refl, sym, ◌∙◌}
use mathlib.Core.Bool.{Bool, true, false}
use mathlib.Core.List.{List, [], ◌∷◌, ◌++◌}
use Rattle.std.specs.Prelude.{Option, Some, None, is_some, unwrap_or}
use native.Mathlib.Omega.{arith}
use borrow.Author.Tests.{leb-false, eq-eqb, not-false}
use Rattle.grain.specs.Dates.{contract_month}
use Rattle.grain.specs.declared.check.Verdict.{Verdict}
use Rattle.grain.specs.declared.check.Verdict.TheVariants.{Free}
use Rattle.grain.proofs.Judged.{is_free, free_only}
use Rattle.grain.proofs.Spots.{still_spot}
use Rattle.record.specs.State.{Day, Record, no_day, day_of, month_of, trade_date, is_spot_on}
use Rattle.record.specs.Founding.{Start, founded}
use Rattle.record.specs.Opening.{is_true_day, date_number, is_not_later, is_same_month, is_left_not_smaller, opening_tests}
use Rattle.record.specs.Check.{judged}
use Rattle.record.specs.Sound.{is_sound_date}
use Rattle.record.specs.Record.{Change, opening, check, Call, change, checked, accepted, tests, refusal, next_common, next, respond, ask, state_after}
use Rattle.record.specs.Theorems.{after, check_after}
use Rattle.record.proofs.TrueDays.{valid, day_small}
use Rattle.record.proofs.Cleared.{accepted_clear}
use Rattle.record.proofs.AcceptedChecks.{passed}
use Rattle.record.proofs.SoundCalls.{facts, open_opened}
use Rattle.record.proofs.Lasting.{list_keeps}

-- ---- from one day to a later one
module _ (before d : Day) (s : is_true_day before ≡ true) (t : is_true_day d ≡ true) where
  later_month : date_number before < date_number d → month_of before ≤ month_of d
  unfolding contract_month
  later_month l =
      let one = valid before s in
      let other = valid d t in
      let small = day_small d t in
      omega arith

  same_month : month_of before ≡ month_of d → is_same_month before d ≡ true
  unfolding contract_month
  same_month e =
      let one = valid before s in
      let other = valid d t in
      rw (eq-eqb d.year before.year (omega arith), eq-eqb d.month before.month (omega arith))

  -- neither 4 nor 16 applies
  stays_spot : is_not_later (Some before) d ≡ false → is_left_not_smaller (Some before) d ≡ false
      → (month : ℕ) → is_spot_on before month ≡ true → is_spot_on d month ≡ true
  stays_spot later smaller month =
      still_spot (trade_date before) (trade_date d) month (later_month (leb-false _ _ later))
      (λ e. let fewer : d.left < before.left = leb-false _ _ (rw (same_month e) at smaller) in omega arith)

-- ---- from one call to a list
-- spot on the last opened day
abbrev spot_since : Option Day → ℕ → Bool
spot_since None month = false
spot_since (Some d) month = is_spot_on d month

module _ (month : ℕ) where
  opened_spot : (o : Option Day) (b : Bool) (d : Day) → is_sound_date o b ≡ true → is_true_day d ≡ true
      → is_not_later o d ≡ false → is_left_not_smaller o d ≡ false → spot_since o month ≡ true → is_spot_on d month ≡ true
  unfolding is_sound_date
  opened_spot None b d s t later smaller e = let z : ◌≡◌ {A = Bool} false true = e in cc
  opened_spot (Some before) b d s t later smaller e = stays_spot before d s t later smaller month e

  change_spot : (r : Record) (c : Change) → refusal r (change c) ≡ None → spot_since r.common.opened month ≡ true
      → spot_since (next r c).common.opened month ≡ true
  unfolding next next_common tests opening_tests
  change_spot r (opening d) e h =
      let k = accepted_clear r (change (opening d)) e in
      opened_spot r.common.opened r.common.is_open d (facts r k.0).date (not-false _ k.1.1.0) k.1.1.1.0 k.1.1.1.1.0 h
  change_spot r c e h = h

  list_spot : (r : Record) (cs : List Call) → spot_since r.common.opened month ≡ true → spot_since (state_after r cs).common.opened month ≡ true
  list_spot = list_keeps (λ r. spot_since r.common.opened month ≡ true) change_spot

after_both : (r : Record) (cs ds : List Call) → state_after r (cs ++ ds) ≡ state_after (state_after r cs) ds
unfolding state_after
after_both r [] ds = refl
after_both r (c ∷ cs) ds = after_both (respond r c).state cs ds

-- ---- what a check says of it
since_opened : (month : ℕ) (o : Option Day) → is_some o ≡ true → spot_since o month ≡ is_spot_on (unwrap_or o no_day) month
since_opened month None h = let z : ◌≡◌ {A = Bool} false true = h in cc
since_opened month (Some d) h = refl

module _ (r : Record) (p size month price : ℕ) (v : Verdict) (e : ask r (check p size month price) ≡ accepted (checked v)) where
  -- a check is answered on an open day
  since : spot_since r.common.opened month ≡ is_spot_on (day_of r.common) month
  since =
      let k = passed r p size month price v e in
      since_opened month r.common.opened (open_opened _ _ (facts r k.sound).date k.is_open)

  found_free : v ≡ Free → spot_since r.common.opened month ≡ true
  unfolding judged
  found_free f = since ∙ free_only _ _ _ _ price ((passed r p size month price v e).is ∙ f)

  still_free : spot_since r.common.opened month ≡ true → v ≡ Free
  unfolding judged
  still_free h =
      let spot : is_spot_on (day_of r.common) month ≡ true = sym since ∙ h in
      sym (passed r p size month price v e).is ∙ rw spot (is_free _ _ _ price)

pub stays_free : (s : Start) (cs ds : List Call) (p q i j month x y : ℕ) (v : Verdict)
    → check_after s cs p i month x ≡ accepted (checked Free) → check_after s (cs ++ ds) q j month y ≡ accepted (checked v) → v ≡ Free
stays_free s cs ds p q i j month x y v e h =
    let spot = list_spot month (after s cs) ds (found_free (after s cs) p i month x Free e refl) in
    still_free (after s (cs ++ ds)) q j month y v h (rw (after_both (founded s) cs ds) spot)
