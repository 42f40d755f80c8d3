-- Ends of days: triggers, levels, marks, raises and leading contracts, computed.
use Prim.Native.Nat.{ℕ}
use mathlib.Core.Path.{◌≡◌, refl}
use mathlib.Core.Bool.{true, false}
use mathlib.Core.List.{List, [], ◌∷◌, ◌++◌, map}
use lib.ListN.{replicate}
use Rattle.record.specs.State.{Day, initial, expanded}
use Rattle.record.specs.Edition.{of2023}
use Rattle.record.specs.Founding.{Start, founded}
use Rattle.record.specs.End.{event_of, Quiet, Triggered, Held, Reverted, Raised}
use Rattle.record.specs.Record.{Call, ended, accepted}
use Rattle.record.proofs.Examples.{corn, soybeans, oil, meal, corn_group, complex, jul24, aug24, sep24, oct24, dec24, jan25, mar25, may25, jul25, june3, june4, june5, june6, june7, june26, june27, on, a_book, opens, files, ends, one_contract, unmoved, full_day, corn_months, not_corn, corn_day, flat, not_complex, complex_day, state_of, answers_after, limits, lead, outcome, in_one_run}

-- ---- the first N
-- a day with Corn sheets of five contracts
abbrev five_contracts : Day → List ℕ → List Call
five_contracts d settlements = full_day d (files corn (jul24 ∷ sep24 ∷ dec24 ∷ mar25 ∷ jul25 ∷ []) settlements ∷ []) not_corn

-- the fifth moves by I and triggers
pub fifth_contract :
    outcome a_book corn_group
    (five_contracts june3 (4000 ∷ 4000 ∷ 4000 ∷ 4000 ∷ 4000 ∷ [])
    ++ five_contracts june4 (4000 ∷ 4000 ∷ 4000 ∷ 4000 ∷ 4200 ∷ []))
    ≡ record {
      events = Quiet ∷ Triggered (lead corn jul25) ∷ [];
      level = expanded;
      mark = false;
      limits = limits 200 320 ∷ [];
    }
unfolding state_of
fifth_contract = in_one_run _ _ _ _ refl

-- with a new contract before it, which has no change, it is the sixth and does not
pub sixth_by_new_contract :
    outcome a_book corn_group
    (five_contracts june3 (4000 ∷ 4000 ∷ 4000 ∷ 4000 ∷ 4000 ∷ [])
    ++ corn_day june4 (4000 ∷ 4000 ∷ 4000 ∷ 4000 ∷ 9000 ∷ 4200 ∷ []))
    ≡ record { events = Quiet ∷ Quiet ∷ []; level = initial; mark = false; limits = limits 200 320 ∷ [] }
unfolding state_of
sixth_by_new_contract = in_one_run _ _ _ _ refl

-- left 2: July is not spot, its move by I triggers
pub before_spot :
    outcome a_book corn_group (corn_day june3 flat ++ corn_day june26 (4200 ∷ 4000 ∷ 4000 ∷ 4000 ∷ 4000 ∷ 4000 ∷ []))
    ≡ record {
      events = Quiet ∷ Triggered (lead corn jul24) ∷ [];
      level = expanded;
      mark = false;
      limits = limits 200 320 ∷ [];
    }
unfolding state_of
before_spot = in_one_run _ _ _ _ refl

-- left 1: July is spot and does not count
pub on_spot :
    outcome a_book corn_group (corn_day june3 flat ++ corn_day june27 (4200 ∷ 4000 ∷ 4000 ∷ 4000 ∷ 4000 ∷ 4000 ∷ []))
    ≡ record { events = Quiet ∷ Quiet ∷ []; level = initial; mark = false; limits = limits 200 320 ∷ [] }
unfolding state_of
on_spot = in_one_run _ _ _ _ refl

-- nor does it take a place in the first N: the sixth listed is the fifth non-spot
pub fifth_after_spot :
    outcome a_book corn_group (corn_day june3 flat ++ corn_day june27 (4000 ∷ 4000 ∷ 4000 ∷ 4000 ∷ 4000 ∷ 4200 ∷ []))
    ≡ record {
      events = Quiet ∷ Triggered (lead corn jul25) ∷ [];
      level = expanded;
      mark = false;
      limits = limits 200 320 ∷ [];
    }
unfolding state_of
fifth_after_spot = in_one_run _ _ _ _ refl

-- Oil's N is 8: nine contracts
abbrev nine_contracts : Day → List ℕ → List Call
nine_contracts d settlements =
    full_day d
    (one_contract soybeans jul25 8000
    ∷ files oil (jul24 ∷ aug24 ∷ sep24 ∷ oct24 ∷ dec24 ∷ jan25 ∷ mar25 ∷ may25 ∷ jul25 ∷ []) settlements
    ∷ one_contract meal jul25 4000
    ∷ [])
    not_complex

-- its eighth triggers
pub eighth_of_oil :
    outcome a_book complex
    (nine_contracts june3 (replicate 9 5000) ++ nine_contracts june4 (replicate 7 5000 ++ 5200 ∷ 5000 ∷ []))
    ≡ record {
      events = Quiet ∷ Triggered (lead oil may25) ∷ [];
      level = expanded;
      mark = false;
      limits = limits 400 600 ∷ limits 200 300 ∷ limits 200 300 ∷ [];
    }
unfolding state_of
eighth_of_oil = in_one_run _ _ _ _ refl

-- its ninth does not
pub ninth_of_oil :
    outcome a_book complex
    (nine_contracts june3 (replicate 9 5000) ++ nine_contracts june4 (replicate 8 5000 ++ 5200 ∷ []))
    ≡ record {
      events = Quiet ∷ Quiet ∷ [];
      level = initial;
      mark = false;
      limits = limits 400 600 ∷ limits 200 300 ∷ limits 200 300 ∷ [];
    }
unfolding state_of
ninth_of_oil = in_one_run _ _ _ _ refl

-- ---- the mark
abbrev expanded_corn : List Call
expanded_corn = corn_day june3 flat ++ corn_day june4 (4200 ∷ 4000 ∷ 4000 ∷ 4000 ∷ 4000 ∷ 4000 ∷ [])

-- the answer has an event for each group
pub whole_answer :
    answers_after a_book
    (corn_day june3 flat
    ++ opens june4
    ∷ files corn corn_months (4200 ∷ 4000 ∷ 4000 ∷ 4000 ∷ 4000 ∷ 4000 ∷ [])
    ∷ map unmoved not_corn)
    (ends ∷ [])
    ≡ accepted (ended (Triggered (lead corn jul24) ∷ Quiet ∷ Quiet ∷ Quiet ∷ Quiet ∷ [])) ∷ []
unfolding state_of
whole_answer = refl

-- a spot contract does not hold, by E neither
pub spot_does_not_hold :
    outcome a_book corn_group (expanded_corn ++ corn_day june27 (4520 ∷ 4000 ∷ 4000 ∷ 4000 ∷ 4000 ∷ 4000 ∷ []))
    ≡ record {
      events = Quiet ∷ Triggered (lead corn jul24) ∷ Reverted ∷ [];
      level = initial;
      mark = false;
      limits = limits 200 320 ∷ [];
    }
unfolding state_of
spot_does_not_hold = in_one_run _ _ _ _ refl

-- held by 318, a tick less than E: no mark
pub held_below_expanded :
    outcome a_book corn_group (expanded_corn ++ corn_day june5 (4518 ∷ 4000 ∷ 4000 ∷ 4000 ∷ 4000 ∷ 4000 ∷ []))
    ≡ record {
      events = Quiet ∷ Triggered (lead corn jul24) ∷ Held (lead corn jul24) ∷ [];
      level = expanded;
      mark = false;
      limits = limits 200 320 ∷ [];
    }
unfolding state_of
held_below_expanded = in_one_run _ _ _ _ refl

-- held by exactly E: marked
pub held_at_expanded :
    outcome a_book corn_group (expanded_corn ++ corn_day june5 (4520 ∷ 4000 ∷ 4000 ∷ 4000 ∷ 4000 ∷ 4000 ∷ []))
    ≡ record {
      events = Quiet ∷ Triggered (lead corn jul24) ∷ Held (lead corn jul24) ∷ [];
      level = expanded;
      mark = true;
      limits = limits 200 320 ∷ [];
    }
unfolding state_of
held_at_expanded = in_one_run _ _ _ _ refl

-- E, then held without E, then E again: not raised
pub not_raised :
    outcome a_book corn_group
    (expanded_corn
    ++ corn_day june5 (4520 ∷ 4000 ∷ 4000 ∷ 4000 ∷ 4000 ∷ 4000 ∷ [])
    ++ corn_day june6 (4720 ∷ 4000 ∷ 4000 ∷ 4000 ∷ 4000 ∷ 4000 ∷ [])
    ++ corn_day june7 (5040 ∷ 4000 ∷ 4000 ∷ 4000 ∷ 4000 ∷ 4000 ∷ []))
    ≡ record {
      events =
          Quiet
          ∷ Triggered (lead corn jul24)
          ∷ Held (lead corn jul24)
          ∷ Held (lead corn jul24)
          ∷ Held (lead corn jul24)
          ∷ [];
      level = expanded;
      mark = true;
      limits = limits 200 320 ∷ [];
    }
unfolding state_of
not_raised = in_one_run _ _ _ _ refl

-- marked, then reverted: the mark is gone
pub mark_lost :
    outcome a_book corn_group
    (expanded_corn
    ++ corn_day june5 (4520 ∷ 4000 ∷ 4000 ∷ 4000 ∷ 4000 ∷ 4000 ∷ [])
    ++ corn_day june6 (4520 ∷ 4000 ∷ 4000 ∷ 4000 ∷ 4000 ∷ 4000 ∷ []))
    ≡ record {
      events = Quiet ∷ Triggered (lead corn jul24) ∷ Held (lead corn jul24) ∷ Reverted ∷ [];
      level = initial;
      mark = false;
      limits = limits 200 320 ∷ [];
    }
unfolding state_of
mark_lost = in_one_run _ _ _ _ refl

-- ---- the Soybean Complex
-- Soybeans alone at its I
pub soybeans_alone :
    outcome a_book complex (complex_day june3 8000 5000 4000 ++ complex_day june4 7600 5000 4000)
    ≡ record {
      events = Quiet ∷ Triggered (lead soybeans jul25) ∷ [];
      level = expanded;
      mark = false;
      limits = limits 400 600 ∷ limits 200 300 ∷ limits 200 300 ∷ [];
    }
unfolding state_of
soybeans_alone = in_one_run _ _ _ _ refl

-- Oil alone
pub oil_alone :
    outcome a_book complex (complex_day june3 8000 5000 4000 ++ complex_day june4 8000 4800 4000)
    ≡ record {
      events = Quiet ∷ Triggered (lead oil jul25) ∷ [];
      level = expanded;
      mark = false;
      limits = limits 400 600 ∷ limits 200 300 ∷ limits 200 300 ∷ [];
    }
unfolding state_of
oil_alone = in_one_run _ _ _ _ refl

-- Meal alone
pub meal_alone :
    outcome a_book complex (complex_day june3 8000 5000 4000 ++ complex_day june4 8000 5000 3800)
    ≡ record {
      events = Quiet ∷ Triggered (lead meal jul25) ∷ [];
      level = expanded;
      mark = false;
      limits = limits 400 600 ∷ limits 200 300 ∷ limits 200 300 ∷ [];
    }
unfolding state_of
meal_alone = in_one_run _ _ _ _ refl

-- each by its own amounts: Soybeans at 200, the I of Oil, is quiet
pub by_its_own_amount :
    outcome a_book complex (complex_day june3 8000 5000 4000 ++ complex_day june4 8200 5000 4000)
    ≡ record {
      events = Quiet ∷ Quiet ∷ [];
      level = initial;
      mark = false;
      limits = limits 400 600 ∷ limits 200 300 ∷ limits 200 300 ∷ [];
    }
unfolding state_of
by_its_own_amount = in_one_run _ _ _ _ refl

-- Oil alone from 200/300 raises the three: each its old E, and E afresh by its own step
pub raised_by_oil :
    outcome a_book complex
    (complex_day june3 8000 5000 4000
    ++ complex_day june4 8000 5200 4000
    ++ complex_day june5 8000 5500 4000
    ++ complex_day june6 8000 5800 4000)
    ≡ record {
      events = Quiet ∷ Triggered (lead oil jul25) ∷ Held (lead oil jul25) ∷ Raised (lead oil jul25) ∷ [];
      level = initial;
      mark = false;
      limits = limits 600 920 ∷ limits 300 450 ∷ limits 300 450 ∷ [];
    }
unfolding state_of
raised_by_oil = in_one_run _ _ _ _ refl

-- Oil at E on one day and Meal at E on the next raise them too
pub raised_by_oil_and_meal :
    outcome a_book complex
    (complex_day june3 8000 5000 4000
    ++ complex_day june4 8000 5200 4000
    ++ complex_day june5 8000 5500 4000
    ++ complex_day june6 8000 5500 4300)
    ≡ record {
      events = Quiet ∷ Triggered (lead oil jul25) ∷ Held (lead oil jul25) ∷ Raised (lead meal jul25) ∷ [];
      level = initial;
      mark = false;
      limits = limits 600 920 ∷ limits 300 450 ∷ limits 300 450 ∷ [];
    }
unfolding state_of
raised_by_oil_and_meal = in_one_run _ _ _ _ refl

-- Soybeans at 1,000,000
abbrev soybeans_at_most : Start
soybeans_at_most = record { edition = 2023; limits = 200 ∷ 1000000 ∷ 200 ∷ 200 ∷ 240 ∷ 240 ∷ 160 ∷ 100 ∷ [] }

-- Oil raises the Complex twice: Soybeans reach the cap, I = E = 2,000,000
pub cap_reached :
    outcome (founded soybeans_at_most) complex
    (complex_day june3 8000 5000 4000
    ++ complex_day june4 8000 5200 4000
    ++ complex_day june5 8000 5500 4000
    ++ complex_day june6 8000 5800 4000
    ++ complex_day june7 8000 6100 4000
    ++ complex_day (on 2024 6 10 13) 8000 6550 4000
    ++ complex_day (on 2024 6 11 12) 8000 7000 4000)
    ≡ record {
      events =
          Quiet
          ∷ Triggered (lead oil jul25)
          ∷ Held (lead oil jul25)
          ∷ Raised (lead oil jul25)
          ∷ Triggered (lead oil jul25)
          ∷ Held (lead oil jul25)
          ∷ Raised (lead oil jul25)
          ∷ [];
      level = initial;
      mark = false;
      limits = limits 2000000 2000000 ∷ limits 450 700 ∷ limits 450 700 ∷ [];
    }
unfolding state_of
cap_reached = in_one_run _ _ _ _ refl

-- ---- the leading contract
-- Soybeans in two months, and Oil in one between them
abbrev two_and_one : List ℕ → ℕ → List Call
two_and_one s o =
    files soybeans (jul24 ∷ sep24 ∷ []) s ∷ one_contract oil aug24 o ∷ one_contract meal jul25 4000 ∷ []

-- Oil's nearer month leads Soybeans' farther one
pub nearest_month_leads :
    outcome a_book complex
    (full_day june3 (two_and_one (8000 ∷ 8000 ∷ []) 5000) not_complex
    ++ full_day june4 (two_and_one (8000 ∷ 8400 ∷ []) 5200) not_complex)
    ≡ record {
      events = Quiet ∷ Triggered (lead oil aug24) ∷ [];
      level = expanded;
      mark = false;
      limits = limits 400 600 ∷ limits 200 300 ∷ limits 200 300 ∷ [];
    }
unfolding state_of
nearest_month_leads = in_one_run _ _ _ _ refl

-- in one month the lowest product number leads
pub lowest_product_leads :
    outcome a_book complex (complex_day june3 8000 5000 4000 ++ complex_day june4 8000 5200 3800)
    ≡ record {
      events = Quiet ∷ Triggered (lead oil jul25) ∷ [];
      level = expanded;
      mark = false;
      limits = limits 400 600 ∷ limits 200 300 ∷ limits 200 300 ∷ [];
    }
unfolding state_of
lowest_product_leads = in_one_run _ _ _ _ refl

-- held is led by the nearest that moved by I or more, raised by the nearest that moved by exactly E
pub leads_by_event :
    outcome a_book corn_group
    (expanded_corn
    ++ corn_day june5 (4400 ∷ 4320 ∷ 4000 ∷ 4000 ∷ 4000 ∷ 4000 ∷ [])
    ++ corn_day june6 (4600 ∷ 4640 ∷ 4000 ∷ 4000 ∷ 4000 ∷ 4000 ∷ []))
    ≡ record {
      events =
          Quiet ∷ Triggered (lead corn jul24) ∷ Held (lead corn jul24) ∷ Raised (lead corn sep24) ∷ [];
      level = initial;
      mark = false;
      limits = limits 320 480 ∷ [];
    }
unfolding state_of
leads_by_event = in_one_run _ _ _ _ refl

-- ---- moves that no list of calls reaches, since a sheet with them is refused
-- a move beyond I at the initial level is not exactly I: quiet
pub beyond_initial :
    event_of of2023 initial false
    ((record { month = jul24; product = corn; is_first = true; size = 202; initial_limit = 200; expanded_limit = 320 } ∷ []) ∷ [])
    ≡ Quiet
unfolding state_of
beyond_initial = refl

-- a move beyond E is not exactly E: held where the ended day before is marked, not raised
pub beyond_expanded :
    event_of of2023 expanded true
    ((record { month = jul24; product = corn; is_first = true; size = 322; initial_limit = 200; expanded_limit = 320 } ∷ []) ∷ [])
    ≡ Held (lead corn jul24)
unfolding state_of
beyond_expanded = refl
