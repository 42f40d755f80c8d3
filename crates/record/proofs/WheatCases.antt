-- Chicago Wheat and KC Wheat as one group, each by its own amounts, computed.
use Prim.Native.Nat.{ℕ}
use mathlib.Core.Path.{◌≡◌, refl}
use mathlib.Core.Bool.{false}
use mathlib.Core.List.{List, [], ◌∷◌, ◌++◌, map}
use Rattle.std.specs.Prelude.{Option, Some}
use Rattle.grain.specs.declared.check.Verdict.TheVariants.{Within, Below, Above}
use Rattle.record.specs.State.{Day, Sheet, Level, initial, expanded, Record, group_of}
use Rattle.record.specs.Founding.{Start, founded}
use Rattle.record.specs.End.{Event, Quiet, Triggered, Held, Reverted, Raised}
use Rattle.record.specs.Record.{Call, filed, ended, checked, refused, accepted}
use Rattle.record.specs.History.{sheets_of, products_of}
use Rattle.record.specs.Theorems.{history_of}
use Rattle.record.proofs.Examples.{corn, soybeans, oil, meal, chicago_wheat, kc_wheat, oats, rice, wheats, sep24, dec24, jul25, june3, june4, june5, june6, opens, ends, checks, one_contract, unmoved, full_day, state_of, opened_unrenewed, answers_after, span, limits, lead, Outcome, outcome, in_one_run}

-- Chicago Wheat at 240 and 360, KC Wheat at 320 and 480
abbrev kc_at320 : Start
kc_at320 = record { edition = 2023; limits = 200 ∷ 400 ∷ 200 ∷ 200 ∷ 240 ∷ 320 ∷ 160 ∷ 100 ∷ [] }

abbrev book : Record
book = founded kc_at320

abbrev not_wheats : List ℕ
not_wheats = corn ∷ soybeans ∷ oil ∷ meal ∷ oats ∷ rice ∷ []

-- a day with these July 2025 settlements of Chicago and KC Wheat; no other product moves
abbrev wheat_day : Day → ℕ → ℕ → List Call
wheat_day d chicago kc = full_day d (one_contract chicago_wheat jul25 chicago ∷ one_contract kc_wheat jul25 kc ∷ []) not_wheats

-- what is left of the two where nothing is raised
abbrev unraised : List Event → Level → Outcome
unraised es l = record { events = es; level = l; mark = false; limits = limits 240 360 ∷ limits 320 480 ∷ [] }

-- one group, which is what `coupled` asks of the two
pub one_group : group_of chicago_wheat ≡ group_of kc_wheat
unfolding state_of
one_group = refl

-- ---- triggered
-- KC alone at its I
abbrev kc_moved : List Call
kc_moved = wheat_day june3 4000 4000 ++ wheat_day june4 4000 4320

pub kc_alone : outcome book wheats kc_moved ≡ unraised (Quiet ∷ Triggered (lead kc_wheat jul25) ∷ []) expanded
unfolding state_of
kc_alone = in_one_run _ _ _ _ refl

-- both are checked by their own E, Chicago too, which did not move
pub each_to_its_own :
    answers_after book kc_moved
    (opens june5
    ∷ checks chicago_wheat 0 jul25 4360
    ∷ checks chicago_wheat 0 jul25 4362
    ∷ checks chicago_wheat 1 jul25 3640
    ∷ checks chicago_wheat 1 jul25 3639
    ∷ checks kc_wheat 0 jul25 4800
    ∷ checks kc_wheat 0 jul25 4802
    ∷ one_contract chicago_wheat jul25 4362
    ∷ one_contract chicago_wheat jul25 4360
    ∷ [])
    ≡ opened_unrenewed
    ∷ accepted (checked (Within (span 3640 4360)))
    ∷ accepted (checked (Above (span 3640 4360)))
    ∷ accepted (checked (Within (span 3640 4360)))
    ∷ accepted (checked (Below (span 3640 4360)))
    ∷ accepted (checked (Within (span 3840 4800)))
    ∷ accepted (checked (Above (span 3840 4800)))
    ∷ refused 10
    ∷ accepted filed
    ∷ []
unfolding state_of
each_to_its_own = refl

-- Chicago alone at its I
pub chicago_alone :
    outcome book wheats (wheat_day june3 4000 4000 ++ wheat_day june4 3760 4000)
    ≡ unraised (Quiet ∷ Triggered (lead chicago_wheat jul25) ∷ []) expanded
unfolding state_of
chicago_alone = in_one_run _ _ _ _ refl

-- each by its own amounts: KC at 240, the I of Chicago, is quiet
pub by_its_own_amount :
    outcome book wheats (wheat_day june3 4000 4000 ++ wheat_day june4 4000 4240) ≡ unraised (Quiet ∷ Quiet ∷ []) initial
unfolding state_of
by_its_own_amount = in_one_run _ _ _ _ refl

-- ---- held and reverted
-- KC at its I holds both
pub held_by_kc :
    outcome book wheats (kc_moved ++ wheat_day june5 4000 4640)
    ≡ unraised (Quiet ∷ Triggered (lead kc_wheat jul25) ∷ Held (lead kc_wheat jul25) ∷ []) expanded
unfolding state_of
held_by_kc = in_one_run _ _ _ _ refl

-- Chicago a tick below its I, KC at the I of Chicago: both fall back
pub reverted :
    outcome book wheats (kc_moved ++ wheat_day june5 4238 4560)
    ≡ unraised (Quiet ∷ Triggered (lead kc_wheat jul25) ∷ Reverted ∷ []) initial
unfolding state_of
reverted = in_one_run _ _ _ _ refl

-- ---- raised
-- Chicago at its E on one day and KC at its E on the next: each gets its old E, and E afresh
pub raised_by_both :
    outcome book wheats (kc_moved ++ wheat_day june5 4360 4320 ++ wheat_day june6 4360 4800)
    ≡ record {
      events =
          Quiet
          ∷ Triggered (lead kc_wheat jul25)
          ∷ Held (lead chicago_wheat jul25)
          ∷ Raised (lead kc_wheat jul25)
          ∷ [];
      level = initial;
      mark = false;
      limits = limits 360 560 ∷ limits 480 720 ∷ [];
    }
unfolding state_of
raised_by_both = in_one_run _ _ _ _ refl

-- KC at the E of Chicago on the second day holds and does not raise
pub not_raised_by_another :
    outcome book wheats (kc_moved ++ wheat_day june5 4360 4320 ++ wheat_day june6 4360 4680)
    ≡ unraised
    (Quiet ∷ Triggered (lead kc_wheat jul25) ∷ Held (lead chicago_wheat jul25) ∷ Held (lead kc_wheat jul25) ∷ [])
    expanded
unfolding state_of
not_raised_by_another = in_one_run _ _ _ _ refl

-- ---- the leading contract
-- a day with KC's September and Chicago's December
abbrev two_months : Day → ℕ → ℕ → List Call
two_months d chicago kc =
    full_day d (one_contract chicago_wheat dec24 chicago ∷ one_contract kc_wheat sep24 kc ∷ []) not_wheats

-- KC's nearer month leads Chicago's farther one
pub nearest_month_leads :
    outcome book wheats (two_months june3 4000 4000 ++ two_months june4 4240 4320)
    ≡ unraised (Quiet ∷ Triggered (lead kc_wheat sep24) ∷ []) expanded
unfolding state_of
nearest_month_leads = in_one_run _ _ _ _ refl

-- in one month Chicago leads
pub lowest_product_leads :
    outcome book wheats (wheat_day june3 4000 4000 ++ wheat_day june4 4240 4320)
    ≡ unraised (Quiet ∷ Triggered (lead chicago_wheat jul25) ∷ []) expanded
unfolding state_of
lowest_product_leads = in_one_run _ _ _ _ refl

-- ---- no other group
-- the end of a day on which KC Wheat or Oats moved by its I: an event for each of the five groups
abbrev last_end : ℕ → ℕ → List Call
last_end kc oat =
    opens june4
    ∷ one_contract kc_wheat jul25 kc
    ∷ one_contract oats jul25 oat
    ∷ map unmoved (corn ∷ soybeans ∷ oil ∷ meal ∷ chicago_wheat ∷ rice ∷ [])

pub kc_leaves_oats :
    answers_after book (wheat_day june3 4000 4000 ++ last_end 4320 1920) (ends ∷ [])
    ≡ accepted (ended (Quiet ∷ Quiet ∷ Triggered (lead kc_wheat jul25) ∷ Quiet ∷ Quiet ∷ [])) ∷ []
unfolding state_of
kc_leaves_oats = refl

pub oats_leave_wheats :
    answers_after book (wheat_day june3 4000 4000 ++ last_end 4000 2080) (ends ∷ [])
    ≡ accepted (ended (Quiet ∷ Quiet ∷ Quiet ∷ Triggered (lead oats jul25) ∷ Quiet ∷ [])) ∷ []
unfolding state_of
oats_leave_wheats = refl

-- the sheets of both wheats, and of no other product, are those that two lists have to agree on for the group
abbrev their_sheets : List (List (Option Sheet))
their_sheets =
    (Some (record { month = jul25; settlement = 4000 } ∷ []) ∷ Some (record { month = jul25; settlement = 4320 } ∷ []) ∷ [])
    ∷ (Some (record { month = jul25; settlement = 4000 } ∷ []) ∷ Some (record { month = jul25; settlement = 4000 } ∷ []) ∷ [])
    ∷ []

pub sheets_of_both : sheets_of (products_of wheats) (history_of kc_at320 kc_moved) ≡ their_sheets
unfolding state_of
sheets_of_both = refl
