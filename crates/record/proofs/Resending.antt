-- What one accepted check says of every other price of its contract.
use Prim.Native.Nat.{ℕ, ◌≤◌}
use mathlib.Core.Path.{◌≡◌, refl, sym, ◌∙◌, ap}
use mathlib.Core.Bool.{Bool, true, false, ◌&&◌}
use Rattle.std.specs.Prelude.{Option, Some, None, is_some}
use lib.Dec.{leb}
use borrow.Author.Tests.{le-leb}
use native.Mathlib.Omega.{arith}
use Rattle.grain.specs.Prices.{is_price}
use Rattle.grain.specs.Check.{span_by, verdict, span_in, is_within}
use Rattle.grain.specs.Spot.{is_spot}
use Rattle.grain.specs.Spans.{SpanOf}
use Rattle.grain.specs.declared.check.Span.{Span}
use Rattle.grain.specs.declared.check.Verdict.{Verdict}
use Rattle.grain.specs.declared.check.Verdict.TheVariants.{Within}
use Rattle.grain.proofs.Judged.{limited_span, is_free, within_only}
use Rattle.grain.proofs.Spanned.{every_span}
use Rattle.record.specs.State.{Record}
use Rattle.record.specs.Check.{Terms, listed, terms_tests, order_tests, judged}
use Rattle.record.specs.Record.{check, checked, accepted, terms_in, tests, refusal, answer, respond, ask}
use Rattle.record.specs.Theorems.{Resent}
use Rattle.record.proofs.AcceptedChecks.{Passed, passed}
use Rattle.record.proofs.Settled.{rests}

-- a verdict that carries a span is of a contract that is not spot, and the span is that of the terms
record Carried (spot : Bool) (t x l : ℕ) (s : Span) : Type 0 where
  not_spot : spot ≡ false
  is_span : s ≡ span_by t x l

carried : (spot : Bool) (t x l price : ℕ) (s : Span) → span_in (verdict spot t x l price) ≡ Some s → Carried spot t x l s
carried true t x l price s e =
    let z : ◌≡◌ {A = Option Span} None (Some s) = sym (ap span_in (is_free t x l price)) ∙ e in record { not_spot = cc; is_span = cc }
carried false t x l price s e =
    let z : Some (span_by t x l) ≡ Some s = sym (limited_span t x l price) ∙ e in record { not_spot = refl; is_span = cc }

-- ---- an accepted check
some_of : (o : Option ℕ) → is_some o ≡ true → (x : ℕ) × (o ≡ Some x)
some_of None e = let z : ◌≡◌ {A = Bool} false true = e in (0, cc)
some_of (Some x) e = (x, refl)

module _ (r : Record) (p size month : ℕ) where
  abbrev on : Terms
  on = terms_in r p size

  -- the same contract at another price that passes 8
  again : (price other : ℕ) (v : Verdict) → Passed r p size month price v → is_price p size other ≡ true
      → ask r (check p size month other) ≡ accepted (checked (judged on month other))
  unfolding respond refusal tests terms_tests order_tests answer
  again price other v k e = rw (k.sound, k.is_open, k.offered, k.is_listed, e)

  -- a listed settlement
  module _ (x : ℕ) (found : listed on.date on.last month ≡ Some x) where
    judged-by : (price : ℕ) → judged on month price ≡ verdict (is_spot on.date month) on.tick x on.limit price
    unfolding judged
    judged-by price = rw found

    -- and a verdict with a span
    module _ (price : ℕ) (v : Verdict) (k : Passed r p size month price v) (s : Span) (has : span_in v ≡ Some s) where
      is_carried : Carried (is_spot on.date month) on.tick x on.limit s
      is_carried = carried _ _ _ _ price s (ap span_in (sym (judged-by price) ∙ k.is) ∙ has)

      judged_limited : (other : ℕ) → judged on month other ≡ verdict false on.tick x on.limit other
      judged_limited other = judged-by other ∙ rw is_carried.not_spot

      is_span_lem : SpanOf p size x on.limit (span_by on.tick x on.limit)
      is_span_lem =
          let rest = rests r k.sound p on.date month x found in
          every_span p size x on.limit k.offered rest.settled rest.fit

      at_end : (end : ℕ) → is_price p size end ≡ true → is_within (verdict false on.tick x on.limit end) ≡ true
          → ask r (check p size month end) ≡ accepted (checked (Within (span_by on.tick x on.limit)))
      at_end end passes within =
          again price end v k passes
          ∙ ap (λ v. accepted (checked v)) (judged_limited end ∙ within_only _ _ within (limited_span on.tick x on.limit end))

      elsewhere : (other : ℕ) (w : Verdict) → ask r (check p size month other) ≡ accepted (checked w)
          → is_within w ≡ (leb (span_by on.tick x on.limit).lowest other && leb other (span_by on.tick x on.limit).highest)
      elsewhere other w e =
          let j = passed r p size month other w e in
          ap is_within (sym j.is ∙ judged_limited other) ∙ is_span_lem.within other j.passes

      resent_by : Resent r p size month s
      resent_by =
          let f = is_span_lem in
          let low = (span_by on.tick x on.limit).lowest in
          let high = (span_by on.tick x on.limit).highest in
          let wide : low ≤ high = omega (arith, f.from_lowest, f.to_highest) in
          rw is_carried.is_span
          record {
            at_lowest =
                at_end low f.lowest_passes
                (f.within low f.lowest_passes ∙ rw (le-leb low low (omega arith), le-leb low high wide));
            at_highest =
                at_end high f.highest_passes
                (f.within high f.highest_passes ∙ rw (le-leb low high wide, le-leb high high (omega arith)));
            elsewhere = elsewhere;
          }

pub resent : (r : Record) (p size month price : ℕ) (v : Verdict) (s : Span)
    → ask r (check p size month price) ≡ accepted (checked v) → span_in v ≡ Some s → Resent r p size month s
resent r p size month price v s e has =
    let k = passed r p size month price v e in
    let found = some_of _ k.is_listed in
    resent_by r p size month found.0 found.1 price v k s has
