-- The bare check with its span, computed at the edges of the prices.
use Rattle.std.proofs.Common.{◌≡◌, refl, Ok}
use Rattle.grain.specs.Products.{steps, floors, standard_ticks, mini_ticks, tick_of}
use Rattle.grain.specs.Prices.{is_on_tick}
use Rattle.grain.specs.Amounts.{is_fit}
use Rattle.grain.specs.Check.{span_by, verdict}
use Rattle.grain.specs.Bare.{bare_answer, no_span, bare_span}
use Rattle.grain.specs.declared.check.Verdict.TheVariants.{Free, Within, Below, Above}

pub record SpanCases : Type 0 where
  -- Corn at its limit, a tick and two ticks above it: the low end is not under the tick, 2
  pub at_limit : bare_answer 0 0 240 240 0 2 ≡ Ok (Within (record { lowest = 2; highest = 480 }))
  pub tick_above : bare_answer 0 0 242 240 0 2 ≡ Ok (Within (record { lowest = 2; highest = 482 }))
  pub two_above : bare_answer 0 0 244 240 0 2 ≡ Ok (Below (record { lowest = 4; highest = 484 }))
  -- a settlement below its limit, and a mini of it: not under 1
  pub below_limit : bare_answer 0 0 100 240 0 342 ≡ Ok (Above (record { lowest = 2; highest = 340 }))
  pub mini_below_limit : bare_answer 0 1 100 240 0 1 ≡ Ok (Within (record { lowest = 1; highest = 340 }))
  -- the high end is not over 1,000,000
  pub to_most : bare_answer 0 0 999760 240 0 1000000 ≡ Ok (Within (record { lowest = 999520; highest = 1000000 }))
  pub over_most : bare_answer 0 0 999762 240 0 1000000 ≡ Ok (Within (record { lowest = 999522; highest = 1000000 }))
  -- the largest amount reaches every price
  pub all : bare_answer 7 0 500000 2000000 0 1 ≡ Ok (Within (record { lowest = 1; highest = 1000000 }))
  -- odd prices of the three minis
  pub corn : bare_answer 0 1 4000 240 0 4241 ≡ Ok (Above (record { lowest = 3760; highest = 4240 }))
  pub soybeans : bare_answer 1 1 8000 400 0 7601 ≡ Ok (Within (record { lowest = 7600; highest = 8400 }))
  pub wheat : bare_answer 4 1 4000 240 0 3759 ≡ Ok (Below (record { lowest = 3760; highest = 4240 }))
  -- free and refused carry none
  pub free : bare_answer 0 0 4000 240 1 9000 ≡ Ok Free
  pub free_span : bare_span (bare_answer 0 0 4000 240 1 9000) ≡ no_span
  pub off_tick : bare_span (bare_answer 0 0 4000 240 0 4001) ≡ no_span
  pub unfit : bare_span (bare_answer 0 0 4000 250 0 4000) ≡ no_span

pub span_cases : SpanCases
unfolding steps floors standard_ticks mini_ticks tick_of is_on_tick is_fit span_by verdict bare_answer
span_cases =
    record {
      at_limit = refl;
      tick_above = refl;
      two_above = refl;
      below_limit = refl;
      mini_below_limit = refl;
      to_most = refl;
      over_most = refl;
      all = refl;
      corn = refl;
      soybeans = refl;
      wheat = refl;
      free = refl;
      free_span = refl;
      off_tick = refl;
      unfit = refl;
    }
