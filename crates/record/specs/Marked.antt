-- The rule's marked numbers (a) to (n), computed from the definitions.
use Rattle.std.specs.Prelude.{◌≡◌, true, false, [], ◌∷◌, ◌++◌, replicate}
use Rattle.grain.specs.Amounts.{expanded_of}
use Rattle.grain.specs.Dates.{contract_month, is_date}
use Rattle.grain.specs.Margin.{gives, season_limits}
use Rattle.grain.specs.declared.check.Verdict.TheVariants.{Within}
use Rattle.record.specs.State.{initial, expanded, is_spot_on}
use Rattle.record.specs.End.{Quiet, Triggered, Held, Reverted, Raised}
use Rattle.record.specs.Record.{checked, accepted}
use Rattle.record.specs.Examples.{corn, soybeans, oil, meal, oats, rice, corn_group, complex, jul24, may25, jul25, june3, june4, june5, june6, june26, june27, a_book, opens, checks, corn_day, flat, complex_day, answers_after, span, limits, lead, outcome}

pub record Marked : Type 0 where
  -- E: Corn I 200, E 320
  pub a : expanded_of corn 200 ≡ 320
  -- E: Corn 560, 840
  pub b : expanded_of corn 560 ≡ 840
  -- 45 equal settlements: Corn 6,000 gives 440, 680
  pub c : season_limits corn (replicate 45 6000) ≡ gives (440 ∷ 680 ∷ [])
  -- Oats 1,920 gives 160, 240
  pub d : season_limits oats (replicate 45 1920) ≡ gives (160 ∷ 240 ∷ [])
  -- Oil 5,000 gives 350, 550
  pub e : season_limits oil (replicate 45 5000) ≡ gives (350 ∷ 550 ∷ [])
  -- Meal 4,000 gives 300, 450
  pub f : season_limits meal (replicate 45 4000) ≡ gives (300 ∷ 450 ∷ [])
  -- Rice 3,000 gives 210, 320
  pub g : season_limits rice (replicate 45 3000) ≡ gives (210 ∷ 320 ∷ [])
  -- 2024-06-27, left 1: July is spot
  pub h₁ : is_date 2024 6 27 ≡ true
  pub h₂ : is_spot_on june27 (contract_month 2024 7) ≡ true
  -- 06-26, left 2: not
  pub h₃ : is_date 2024 6 26 ≡ true
  pub h₄ : is_spot_on june26 (contract_month 2024 7) ≡ false
  -- Corn 200/320: fifth non-spot −200, others 0: expanded
  pub i :
      outcome a_book corn_group
      (corn_day june3 flat
      ++ corn_day june4 (4000 ∷ 4000 ∷ 4000 ∷ 4000 ∷ 3800 ∷ 4000 ∷ []))
      ≡ record {
        events = Quiet ∷ Triggered (lead corn may25) ∷ [];
        level = expanded;
        mark = false;
        limits = limits 200 320 ∷ [];
      }
  -- sixth alone +200: quiet
  pub j :
      outcome a_book corn_group
      (corn_day june3 flat
      ++ corn_day june4 (4000 ∷ 4000 ∷ 4000 ∷ 4000 ∷ 4000 ∷ 4200 ∷ []))
      ≡ record { events = Quiet ∷ Quiet ∷ []; level = initial; mark = false; limits = limits 200 320 ∷ [] }
  -- expanded, sixth +200: held
  pub k :
      outcome a_book corn_group
      (corn_day june3 flat
      ++ corn_day june4 (4000 ∷ 4000 ∷ 4000 ∷ 4000 ∷ 3800 ∷ 4000 ∷ [])
      ++ corn_day june5 (4000 ∷ 4000 ∷ 4000 ∷ 4000 ∷ 3800 ∷ 4200 ∷ []))
      ≡ record {
        events = Quiet ∷ Triggered (lead corn may25) ∷ Held (lead corn jul25) ∷ [];
        level = expanded;
        mark = false;
        limits = limits 200 320 ∷ [];
      }
  -- expanded, largest 198: reverted
  pub l :
      outcome a_book corn_group
      (corn_day june3 flat
      ++ corn_day june4 (4000 ∷ 4000 ∷ 4000 ∷ 4000 ∷ 3800 ∷ 4000 ∷ [])
      ++ corn_day june5 (4198 ∷ 4198 ∷ 4198 ∷ 4198 ∷ 3998 ∷ 3802 ∷ []))
      ≡ record {
        events = Quiet ∷ Triggered (lead corn may25) ∷ Reverted ∷ [];
        level = initial;
        mark = false;
        limits = limits 200 320 ∷ [];
      }
  -- two expanded days at 320: initial, 320/480
  pub m :
      outcome a_book corn_group
      (corn_day june3 flat
      ++ corn_day june4 (4000 ∷ 4000 ∷ 4000 ∷ 4000 ∷ 3800 ∷ 4000 ∷ [])
      ++ corn_day june5 (4320 ∷ 4000 ∷ 4000 ∷ 4000 ∷ 3800 ∷ 4000 ∷ [])
      ++ corn_day june6 (4320 ∷ 4000 ∷ 4000 ∷ 4000 ∷ 3800 ∷ 3680 ∷ []))
      ≡ record {
        events = Quiet ∷ Triggered (lead corn may25) ∷ Held (lead corn jul24) ∷ Raised (lead corn jul25) ∷ [];
        level = initial;
        mark = false;
        limits = limits 320 480 ∷ [];
      }
  -- Oil alone at its I: all three expanded
  pub n₁ :
      outcome a_book complex (complex_day june3 8000 5000 4000 ++ complex_day june4 8000 5200 4000)
      ≡ record {
        events = Quiet ∷ Triggered (lead oil jul25) ∷ [];
        level = expanded;
        mark = false;
        limits = limits 400 600 ∷ limits 200 300 ∷ limits 200 300 ∷ [];
      }
  -- the next day a price of each at its E is within
  pub n₂ :
      answers_after a_book (complex_day june3 8000 5000 4000 ++ complex_day june4 8000 5200 4000 ++ opens june5 ∷ [])
      (checks soybeans 0 jul25 8600 ∷ checks oil 0 jul25 5500 ∷ checks meal 0 jul25 4300 ∷ [])
      ≡ accepted (checked (Within (span 7400 8600))) ∷ accepted (checked (Within (span 4900 5500))) ∷ accepted (checked (Within (span 3700 4300))) ∷ []
