-- Two products of the Complex with prices that meet the premises of `coupled`, computed on either level.
use mathlib.Core.Path.{◌≡◌, refl}
use mathlib.Core.List.{List, [], ◌∷◌, ◌++◌}
use borrow.Author.Tests.{ltb-true, leb-true}
use Rattle.grain.specs.Check.{is_within}
use Rattle.grain.specs.declared.check.Verdict.TheVariants.{Within, Above}
use Rattle.record.specs.Record.{Call, checked, accepted}
use Rattle.record.specs.Theorems.{after, check_after, BetweenLimits}
use Rattle.record.proofs.Examples.{soybeans, oil, jul25, june3, june4, june5, corn_at200, opens, complex_day, state_of, span}
use Rattle.record.proofs.Coupled.{coupled}

-- ---- the day after Oil alone moved by its I: Soybeans' July at 8,000, I 400 and E 600, Oil's at 5,200, I 200 and E 300
abbrev at_expanded : List Call
at_expanded = complex_day june3 8000 5000 4000 ++ complex_day june4 8000 5200 4000 ++ opens june5 ∷ []

pub soybeans_expanded : BetweenLimits (after corn_at200 at_expanded) soybeans jul25 8600
unfolding state_of
soybeans_expanded =
    record {
      settlement = 8000;
      is_listed = refl;
      not_spot = refl;
      beyond_initial = ltb-true 400 600 refl;
      not_beyond_expanded = leb-true 600 600 refl;
    }

pub oil_expanded : BetweenLimits (after corn_at200 at_expanded) oil jul25 5500
unfolding state_of
oil_expanded =
    record {
      settlement = 5200;
      is_listed = refl;
      not_spot = refl;
      beyond_initial = ltb-true 200 300 refl;
      not_beyond_expanded = leb-true 300 300 refl;
    }

pub soybeans_within :
    check_after corn_at200 at_expanded soybeans 0 jul25 8600 ≡ accepted (checked (Within (span 7400 8600)))
unfolding state_of
soybeans_within = refl

pub oil_within : check_after corn_at200 at_expanded oil 0 jul25 5500 ≡ accepted (checked (Within (span 4900 5500)))
unfolding state_of
oil_within = refl

-- so that `coupled` speaks of these answers
pub both_within : is_within (Within (span 7400 8600)) ≡ is_within (Within (span 4900 5500))
unfolding state_of
both_within =
    coupled (after corn_at200 at_expanded) soybeans oil 0 0 jul25 jul25 8600 5500 _ _ refl soybeans_expanded oil_expanded soybeans_within oil_within

-- ---- the day after a quiet one: Oil's July at 5,000
abbrev at_initial : List Call
at_initial = complex_day june3 8000 5000 4000 ++ opens june4 ∷ []

pub soybeans_initial : BetweenLimits (after corn_at200 at_initial) soybeans jul25 8600
unfolding state_of
soybeans_initial =
    record {
      settlement = 8000;
      is_listed = refl;
      not_spot = refl;
      beyond_initial = ltb-true 400 600 refl;
      not_beyond_expanded = leb-true 600 600 refl;
    }

pub oil_initial : BetweenLimits (after corn_at200 at_initial) oil jul25 5300
unfolding state_of
oil_initial =
    record {
      settlement = 5000;
      is_listed = refl;
      not_spot = refl;
      beyond_initial = ltb-true 200 300 refl;
      not_beyond_expanded = leb-true 300 300 refl;
    }

pub soybeans_above :
    check_after corn_at200 at_initial soybeans 0 jul25 8600 ≡ accepted (checked (Above (span 7600 8400)))
unfolding state_of
soybeans_above = refl

pub oil_above : check_after corn_at200 at_initial oil 0 jul25 5300 ≡ accepted (checked (Above (span 4800 5200)))
unfolding state_of
oil_above = refl

pub both_above : is_within (Above (span 7600 8400)) ≡ is_within (Above (span 4800 5200))
unfolding state_of
both_above =
    coupled (after corn_at200 at_initial) soybeans oil 0 0 jul25 jul25 8600 5300 _ _ refl soybeans_initial oil_initial soybeans_above oil_above
