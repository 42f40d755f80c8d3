-- Ends of days under the edition of 2014, computed; where 2023 differs, beside it.
use Prim.Native.Nat.{ℕ}
use mathlib.Core.Path.{◌≡◌, refl}
use mathlib.Core.Bool.{true, false}
use mathlib.Core.List.{List, [], ◌∷◌, ◌++◌, map}
use lib.ListN.{replicate}
use Rattle.grain.specs.Dates.{contract_month}
use Rattle.record.specs.State.{Day, Level, initial, expanded}
use Rattle.record.specs.Edition.{of2014}
use Rattle.record.specs.End.{Event, event_of, Quiet, Triggered, Held, Reverted}
use Rattle.record.specs.Record.{Call}
use Rattle.record.proofs.Examples.{corn, soybeans, oil, meal, chicago_wheat, kc_wheat, oats, rice, corn_group, complex, wheats, jul24, aug24, sep24, oct24, dec24, mar25, may25, jul25, june3, june4, june5, june6, a_book, old_book, files, one_contract, full_day, not_corn, corn_day, flat, not_complex, complex_day, state_of, limits, lead, Outcome, outcome, in_one_run}

-- what is left of Corn: its limits stay, and there is no mark
abbrev corn_left : List Event → Level → Outcome
corn_left es l = record { events = es; level = l; mark = false; limits = limits 200 320 ∷ [] }

-- and of the Complex
abbrev complex_left : List Event → Level → Outcome
complex_left es l =
    record { events = es; level = l; mark = false; limits = limits 400 600 ∷ limits 200 300 ∷ limits 200 300 ∷ [] }

-- two days, on the second of which July, September, December, March, May and July 2025 of Corn settle so
abbrev corn_to : List ℕ → List Call
corn_to settlements = corn_day june3 flat ++ corn_day june4 settlements

-- ---- triggered
-- July +I and December -I: two contracts of one product
pub two_contracts :
    outcome old_book corn_group (corn_to (4200 ∷ 4000 ∷ 3800 ∷ 4000 ∷ 4000 ∷ 4000 ∷ []))
    ≡ corn_left (Quiet ∷ Triggered (lead corn jul24) ∷ []) expanded
unfolding state_of
two_contracts = in_one_run _ _ _ _ refl

-- July alone, and July with another that is a tick short: under 2023 each triggers
pub one_contract_alone :
    outcome old_book corn_group (corn_to (4200 ∷ 4000 ∷ 3802 ∷ 4000 ∷ 4000 ∷ 4000 ∷ [])) ≡ corn_left (Quiet ∷ Quiet ∷ []) initial
unfolding state_of
one_contract_alone = in_one_run _ _ _ _ refl

pub one_contract_now :
    outcome a_book corn_group (corn_to (4200 ∷ 4000 ∷ 3802 ∷ 4000 ∷ 4000 ∷ 4000 ∷ []))
    ≡ corn_left (Quiet ∷ Triggered (lead corn jul24) ∷ []) expanded
unfolding state_of
one_contract_now = in_one_run _ _ _ _ refl

-- the fifth and the sixth: one of the first N alone; the fourth and the fifth: two
pub one_of_the_first :
    outcome old_book corn_group (corn_to (4000 ∷ 4000 ∷ 4000 ∷ 4000 ∷ 4200 ∷ 4200 ∷ [])) ≡ corn_left (Quiet ∷ Quiet ∷ []) initial
unfolding state_of
one_of_the_first = in_one_run _ _ _ _ refl

pub two_of_the_first :
    outcome old_book corn_group (corn_to (4000 ∷ 4000 ∷ 4000 ∷ 4200 ∷ 4200 ∷ 4000 ∷ []))
    ≡ corn_left (Quiet ∷ Triggered (lead corn mar25) ∷ []) expanded
unfolding state_of
two_of_the_first = in_one_run _ _ _ _ refl

-- September alone, Corn's last crop-year month
pub last_crop_month :
    outcome old_book corn_group (corn_to (4000 ∷ 3800 ∷ 4000 ∷ 4000 ∷ 4000 ∷ 4000 ∷ []))
    ≡ corn_left (Quiet ∷ Triggered (lead corn sep24) ∷ []) expanded
unfolding state_of
last_crop_month = in_one_run _ _ _ _ refl

-- a day with Corn sheets of six contracts, September the last
abbrev september_sixth : Day → List ℕ → List Call
september_sixth d settlements =
    full_day d
    (files corn (jul24 ∷ dec24 ∷ mar25 ∷ may25 ∷ jul25 ∷ contract_month 2025 9 ∷ []) settlements ∷ [])
    not_corn

-- outside the first N it does not trigger, nor together with one of them
pub crop_month_beyond_first :
    outcome old_book corn_group
    (september_sixth june3 flat
    ++ september_sixth june4 (4000 ∷ 4000 ∷ 4000 ∷ 4000 ∷ 4000 ∷ 4200 ∷ [])
    ++ september_sixth june5 (4200 ∷ 4000 ∷ 4000 ∷ 4000 ∷ 4000 ∷ 4400 ∷ []))
    ≡ corn_left (Quiet ∷ Quiet ∷ Quiet ∷ []) initial
unfolding state_of
crop_month_beyond_first = in_one_run _ _ _ _ refl

-- one of Soybeans and one of Oil: two of the group, but none of its products triggers
pub one_of_each_of_two :
    outcome old_book complex (complex_day june3 8000 5000 4000 ++ complex_day june4 8400 5200 4000)
    ≡ complex_left (Quiet ∷ Quiet ∷ []) initial
unfolding state_of
one_of_each_of_two = in_one_run _ _ _ _ refl

-- Soybeans in one month, Oil in two
abbrev one_and_two : ℕ → List ℕ → List Call
one_and_two s o =
    one_contract soybeans jul24 s ∷ files oil (aug24 ∷ oct24 ∷ []) o ∷ one_contract meal jul25 4000 ∷ []

-- Soybeans do not trigger, so that Oil leads, though in a farther month; the three expand
pub lead_of_triggering :
    outcome old_book complex
    (full_day june3 (one_and_two 8000 (5000 ∷ 5000 ∷ [])) not_complex
    ++ full_day june4 (one_and_two 8400 (5200 ∷ 4800 ∷ [])) not_complex)
    ≡ complex_left (Quiet ∷ Triggered (lead oil aug24) ∷ []) expanded
unfolding state_of
lead_of_triggering = in_one_run _ _ _ _ refl

-- a day with these settlements of Chicago Wheat and KC Wheat in one month
abbrev wheat_day : ℕ → Day → ℕ → ℕ → List Call
wheat_day month d chicago kc =
    full_day d (one_contract chicago_wheat month chicago ∷ one_contract kc_wheat month kc ∷ [])
    (corn ∷ soybeans ∷ oil ∷ meal ∷ oats ∷ rice ∷ [])

abbrev wheats_moved : ℕ → List Call
wheats_moved month = wheat_day month june3 4000 4000 ++ wheat_day month june4 4240 3760

abbrev wheats_left : List Event → Level → Outcome
wheats_left es l = record { events = es; level = l; mark = false; limits = limits 240 360 ∷ limits 240 360 ∷ [] }

-- each of the two wheats by one contract does not trigger them, unless it is May
pub wheats_in_march : outcome old_book wheats (wheats_moved mar25) ≡ wheats_left (Quiet ∷ Quiet ∷ []) initial
unfolding state_of
wheats_in_march = in_one_run _ _ _ _ refl

pub wheats_in_may :
    outcome old_book wheats (wheats_moved may25) ≡ wheats_left (Quiet ∷ Triggered (lead chicago_wheat may25) ∷ []) expanded
unfolding state_of
wheats_in_may = in_one_run _ _ _ _ refl

-- one move of exactly I, within the first N
abbrev one_move : ℕ → ℕ → Event
one_move p month =
    event_of of2014 initial false
    ((record { month = contract_month 2024 month; product = p; is_first = true; size = 400; initial_limit = 400; expanded_limit = 600 } ∷ []) ∷ [])

abbrev triggered : ℕ → ℕ → Event
triggered p month = Triggered (lead p (contract_month 2024 month))

-- each product's last crop-year month alone triggers
pub crop_months :
    one_move corn 9 ∷ one_move soybeans 8 ∷ one_move oil 9 ∷ one_move meal 9
    ∷ one_move chicago_wheat 5 ∷ one_move kc_wheat 5 ∷ one_move oats 5 ∷ one_move rice 7 ∷ []
    ≡ triggered corn 9 ∷ triggered soybeans 8 ∷ triggered oil 9 ∷ triggered meal 9
    ∷ triggered chicago_wheat 5 ∷ triggered kc_wheat 5 ∷ triggered oats 5 ∷ triggered rice 7 ∷ []
unfolding state_of
crop_months = refl

-- the months traded before and after it do not
pub other_months :
    map (one_move corn) (7 ∷ 12 ∷ []) ++ map (one_move soybeans) (7 ∷ 9 ∷ []) ++ map (one_move oil) (8 ∷ 10 ∷ [])
    ++ map (one_move meal) (8 ∷ 10 ∷ []) ++ map (one_move chicago_wheat) (3 ∷ 7 ∷ []) ++ map (one_move kc_wheat) (3 ∷ 7 ∷ [])
    ++ map (one_move oats) (3 ∷ 7 ∷ []) ++ map (one_move rice) (5 ∷ 9 ∷ [])
    ≡ replicate 16 Quiet
unfolding state_of
other_months = refl

-- ---- expanded
abbrev widened : List Call
widened = corn_to (4200 ∷ 4200 ∷ 4000 ∷ 4000 ∷ 4000 ∷ 4000 ∷ [])

-- then July moves by I, and September by a tick less than E
abbrev by_initial : List Call
by_initial = widened ++ corn_day june5 (4400 ∷ 4518 ∷ 4000 ∷ 4000 ∷ 4000 ∷ 4000 ∷ [])

-- reverted; under 2023 held
pub initial_reverts :
    outcome old_book corn_group by_initial ≡ corn_left (Quiet ∷ Triggered (lead corn jul24) ∷ Reverted ∷ []) initial
unfolding state_of
initial_reverts = in_one_run _ _ _ _ refl

pub initial_holds :
    outcome a_book corn_group by_initial
    ≡ corn_left (Quiet ∷ Triggered (lead corn jul24) ∷ Held (lead corn jul24) ∷ []) expanded
unfolding state_of
initial_holds = in_one_run _ _ _ _ refl

-- exactly E: held, led by a contract that moved by E, with no mark; E again, of the sixth contract: held, not raised
pub never_raised :
    outcome old_book corn_group
    (widened
    ++ corn_day june5 (4400 ∷ 4520 ∷ 4000 ∷ 4000 ∷ 4000 ∷ 4000 ∷ [])
    ++ corn_day june6 (4400 ∷ 4520 ∷ 4000 ∷ 4000 ∷ 4000 ∷ 4320 ∷ []))
    ≡ corn_left (Quiet ∷ Triggered (lead corn jul24) ∷ Held (lead corn sep24) ∷ Held (lead corn jul25) ∷ []) expanded
unfolding state_of
never_raised = in_one_run _ _ _ _ refl

-- a move beyond E, which no list of calls reaches, is not exactly E: reverted
pub beyond_expanded :
    event_of of2014 expanded false
    ((record { month = jul24; product = corn; is_first = true; size = 322; initial_limit = 200; expanded_limit = 320 } ∷ []) ∷ [])
    ≡ Reverted
unfolding state_of
beyond_expanded = refl
