-- When a price is within, below and above, by the sums that the code takes; what a verdict that is not free says and carries, and which is free.
use Prim.Native.Nat.{ℕ, ◌+◌, ◌<◌, ◌≤◌}
use mathlib.Core.Path.{◌≡◌, refl, ap, sym, ◌∙◌}
use mathlib.Core.Bool.{Bool, true, false, cond}
use Rattle.std.specs.Prelude.{Option, Some, None}
use native.Mathlib.Omega.{arith}
use lib.Dec.{leb, ltb}
use borrow.Author.Tests.{lt-leb, le-leb, lt-ltb, le-ltb}
use Rattle.grain.specs.Lists.{distance}
use Rattle.grain.specs.Check.{span_by, verdict, span_in, is_within}
use Rattle.grain.specs.declared.check.Span.{Span}
use Rattle.grain.specs.declared.check.Verdict.{Verdict}
use Rattle.grain.specs.declared.check.Verdict.TheVariants.{Free, Within, Below, Above}

module _ (tick settlement limit price : ℕ) where
  pub lies_within : settlement ≤ price + limit → price ≤ settlement + limit
      → verdict false tick settlement limit price ≡ Within (span_by tick settlement limit)
  unfolding verdict
  lies_within l h =
      let near : distance price settlement ≤ limit = omega arith in
      simp (le-leb (distance price settlement) limit near)

  pub is_below : price + limit < settlement → verdict false tick settlement limit price ≡ Below (span_by tick settlement limit)
  unfolding verdict
  is_below h =
      let far : limit < distance price settlement = omega arith in
      let under : price < settlement = omega arith in
      simp (lt-leb (distance price settlement) limit far, lt-ltb price settlement under)

  pub is_above : settlement + limit < price → verdict false tick settlement limit price ≡ Above (span_by tick settlement limit)
  unfolding verdict
  is_above h =
      let far : limit < distance price settlement = omega arith in
      let over : settlement ≤ price = omega arith in
      simp (lt-leb (distance price settlement) limit far, le-ltb price settlement over)

  pub within_by : is_within (verdict false tick settlement limit price) ≡ leb (distance price settlement) limit
  unfolding verdict
  within_by = go (leb (distance price settlement) limit) (ltb price settlement) (span_by tick settlement limit)
    where
      go : (a b : Bool) (s : Span) → is_within (cond a (Within s) (cond b (Below s) (Above s))) ≡ a
      go true b s = refl
      go false true s = refl
      go false false s = refl

  pub limited_span : span_in (verdict false tick settlement limit price) ≡ Some (span_by tick settlement limit)
  unfolding verdict
  limited_span = go (leb (distance price settlement) limit) (ltb price settlement) (span_by tick settlement limit)
    where
      go : (a b : Bool) (s : Span) → span_in (cond a (Within s) (cond b (Below s) (Above s))) ≡ Some s
      go true b s = refl
      go false true s = refl
      go false false s = refl

  pub is_free : verdict true tick settlement limit price ≡ Free
  unfolding verdict
  is_free = refl

-- only a spot contract is free
pub free_only : (spot : Bool) (tick settlement limit price : ℕ) → verdict spot tick settlement limit price ≡ Free → spot ≡ true
free_only true tick settlement limit price e = refl
free_only false tick settlement limit price e =
    let z : ◌≡◌ {A = Option Span} (Some _) None = sym (limited_span tick settlement limit price) ∙ ap span_in e in cc

-- of the verdicts with a span one is within
pub within_only : (v : Verdict) (s : Span) → is_within v ≡ true → span_in v ≡ Some s → v ≡ Within s
within_only Free s w e = let z : ◌≡◌ {A = Bool} false true = w in cc
within_only (Within t) s w e = cc
within_only (Below t) s w e = let z : ◌≡◌ {A = Bool} false true = w in cc
within_only (Above t) s w e = let z : ◌≡◌ {A = Bool} false true = w in cc
