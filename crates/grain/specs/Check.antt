-- What a check answers of a price, once nothing is refused.
use Rattle.std.specs.Prelude.{ℕ, ◌+◌, ◌-◌, min, max, Bool, true, false, cond, leb, ltb, Option, Some, None}
use Rattle.grain.specs.Lists.{distance}
use Rattle.grain.specs.declared.check.Span.{Span}
use Rattle.grain.specs.declared.check.Verdict.{Verdict}
use Rattle.grain.specs.declared.check.Verdict.TheVariants.{Free, Within, Below, Above}
use Rattle.grain.specs.Prices.{max_price}

-- the prices that a limit allows: from settlement − limit, but not under the tick, to settlement + limit, but not over 1,000,000
unfoldable pub span_by : ℕ → ℕ → ℕ → Span
span_by tick settlement limit =
    record { lowest = max tick (settlement - limit); highest = min max_price (settlement + limit) }

-- spot is free; within is a distance of at most the limit, ends included
unfoldable pub verdict : Bool → ℕ → ℕ → ℕ → ℕ → Verdict
verdict spot tick settlement limit price =
    cond spot Free
    (cond (leb (distance price settlement) limit) (Within (span_by tick settlement limit))
    (cond (ltb price settlement) (Below (span_by tick settlement limit)) (Above (span_by tick settlement limit))))

-- the number of each verdict
abbrev pub free : ℕ
free = 100

abbrev pub within : ℕ
within = 101

abbrev pub below : ℕ
below = 102

abbrev pub above : ℕ
above = 103

abbrev pub verdict_number : Verdict → ℕ
verdict_number Free = free
verdict_number (Within s) = within
verdict_number (Below s) = below
verdict_number (Above s) = above

-- the span that a verdict carries
abbrev pub span_in : Verdict → Option Span
span_in Free = None
span_in (Within s) = Some s
span_in (Below s) = Some s
span_in (Above s) = Some s

abbrev pub is_within : Verdict → Bool
is_within Free = false
is_within (Within s) = true
is_within (Below s) = false
is_within (Above s) = false
