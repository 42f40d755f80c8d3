-- The level and mark of a group at an opening, computed.
use Prim.Native.Nat.{ℕ}
use mathlib.Core.Path.{◌≡◌, refl}
use mathlib.Core.Bool.{true, false, cond}
use mathlib.Core.List.{List, [], ◌∷◌, ◌++◌, map}
use Rattle.std.specs.Prelude.{Some}
use lib.Dec.{eqb}
use Rattle.grain.specs.declared.check.Verdict.TheVariants.{Within, Above}
use Rattle.record.specs.State.{Day, Record, initial, expanded, with_level, with_mark}
use Rattle.record.specs.End.{Event, Quiet, Triggered, Held, Raised}
use Rattle.record.specs.Record.{Call, opened, filed, checked, refused, accepted}
use Rattle.record.proofs.Examples.{corn, soybeans, oil, meal, chicago_wheat, kc_wheat, oats, rice, corn_group, complex, wheats, oats_group, jul25, on, a_book, collected_in, collected, opens, checks, one_contract, full_day, state_of, answers_after, span, Limits, limits, lead, Outcome, outcome, in_one_run}

-- a day with these July 2025 settlements of Corn, Oil, Chicago Wheat and Oats; no other product moves
abbrev four_move : Day → ℕ → ℕ → ℕ → ℕ → List Call
four_move d c o w t =
    full_day d
    (one_contract corn jul25 c ∷ one_contract oil jul25 o ∷ one_contract chicago_wheat jul25 w ∷ one_contract oats jul25 t ∷ [])
    (soybeans ∷ meal ∷ kc_wheat ∷ rice ∷ [])

-- up by I, then by E: the groups of the four are expanded and marked, and every window has three settlements more
abbrev february : List Call
february =
    four_move (on 2025 2 12 11) 6000 5000 4000 1920
    ++ four_move (on 2025 2 13 10) 6200 5200 4240 2080
    ++ four_move (on 2025 2 14 9) 6520 5500 4600 2320

-- the first day of the next season
abbrev may1 : Day
may1 = on 2025 5 1 21

-- after these days one product has a full window, the others three settlements each
abbrev full_for : ℕ → Record
full_for p = collected_in a_book (λ q. cond (eqb q p) 42 0)

-- the events of these days, led by a product
abbrev marking : ℕ → List Event
marking p = Quiet ∷ Triggered (lead p jul25) ∷ Held (lead p jul25) ∷ []

-- what they leave of its group, which an opening then keeps
abbrev marked : ℕ → List Limits → Outcome
marked p ls = record { events = marking p; level = expanded; mark = true; limits = ls }

-- or brings back
abbrev narrow : ℕ → List Limits → Outcome
narrow p ls = record { events = marking p; level = initial; mark = false; limits = ls }

-- ---- one product's full window moves its whole group
pub marked_complex :
    outcome (full_for oil) complex february ≡ marked oil (limits 400 600 ∷ limits 200 300 ∷ limits 200 300 ∷ [])
unfolding state_of
marked_complex = in_one_run _ _ _ _ refl

-- Oil alone gets new limits, and all three come back; Soybeans and Meal keep their limits
pub oil_alone :
    outcome (full_for oil) complex (february ++ opens may1 ∷ [])
    ≡ narrow oil (limits 400 600 ∷ limits 350 550 ∷ limits 200 300 ∷ [])
unfolding state_of
oil_alone = in_one_run _ _ _ _ refl

-- each is checked by its own I
pub checks_of_three :
    answers_after (full_for oil) february
    (opens may1
    ∷ checks soybeans 0 jul25 8400
    ∷ checks soybeans 0 jul25 8402
    ∷ checks oil 0 jul25 5850
    ∷ checks oil 0 jul25 5851
    ∷ checks meal 0 jul25 4200
    ∷ checks meal 0 jul25 4201
    ∷ [])
    ≡ accepted (opened (false ∷ false ∷ true ∷ false ∷ false ∷ false ∷ false ∷ false ∷ []))
    ∷ accepted (checked (Within (span 7600 8400)))
    ∷ accepted (checked (Above (span 7600 8400)))
    ∷ accepted (checked (Within (span 5150 5850)))
    ∷ accepted (checked (Above (span 5150 5850)))
    ∷ accepted (checked (Within (span 3800 4200)))
    ∷ accepted (checked (Above (span 3800 4200)))
    ∷ []
unfolding state_of
checks_of_three = refl

-- ---- limits that are equal to the old are new
pub equal_answer :
    answers_after (full_for oats) february (opens may1 ∷ [])
    ≡ accepted (opened (false ∷ false ∷ false ∷ false ∷ false ∷ false ∷ true ∷ false ∷ [])) ∷ []
unfolding state_of
equal_answer = refl

pub equal_limits : outcome (full_for oats) oats_group (february ++ opens may1 ∷ []) ≡ narrow oats (limits 160 240 ∷ [])
unfolding state_of
equal_limits = in_one_run _ _ _ _ refl

-- ---- and no other group
pub corn_reset : outcome (full_for corn) corn_group (february ++ opens may1 ∷ []) ≡ narrow corn (limits 440 680 ∷ [])
unfolding state_of
corn_reset = in_one_run _ _ _ _ refl

-- the wheats keep their level and mark over Corn's reset
pub wheats_stay :
    outcome (full_for corn) wheats (february ++ opens may1 ∷ []) ≡ marked chicago_wheat (limits 240 360 ∷ limits 240 360 ∷ [])
unfolding state_of
wheats_stay = in_one_run _ _ _ _ refl

-- KC Wheat, which did not move, alone gets new limits, and both wheats come back
pub kc_alone :
    outcome (full_for kc_wheat) wheats (february ++ opens may1 ∷ []) ≡ narrow chicago_wheat (limits 240 360 ∷ limits 280 440 ∷ [])
unfolding state_of
kc_alone = in_one_run _ _ _ _ refl

-- ---- no new limits, no reset
-- 44 settlements in the window
pub short_window : outcome (collected 41) corn_group (february ++ opens may1 ∷ []) ≡ marked corn (limits 200 320 ∷ [])
unfolding state_of
short_window = in_one_run _ _ _ _ refl

-- 45, and a season skipped
pub two_seasons_later :
    outcome (collected 42) corn_group (february ++ opens (on 2025 11 3 19) ∷ []) ≡ marked corn (limits 200 320 ∷ [])
unfolding state_of
two_seasons_later = in_one_run _ _ _ _ refl

-- 45, and the same season
pub later_in_february :
    outcome (collected 42) corn_group (february ++ opens (on 2025 2 17 8) ∷ []) ≡ marked corn (limits 200 320 ∷ [])
unfolding state_of
later_in_february = in_one_run _ _ _ _ refl

-- every group expanded and marked, every window full, and no day yet: no list of calls leads there, but the book is sound
abbrev all_marked : Record
all_marked =
    record {
      common = (collected 45).common;
      groups = map (λ g. with_level expanded (with_mark true g)) (collected 45).groups;
    }

-- 45, and the first opening
pub first_of_all :
    outcome all_marked corn_group (opens may1 ∷ [])
    ≡ record { events = []; level = expanded; mark = true; limits = limits 200 320 ∷ [] }
unfolding state_of
first_of_all = in_one_run _ _ _ _ refl

-- the same under 2014, where an expanded group has no mark, after a day of the season before
abbrev all_expanded : Record
all_expanded =
    record {
      common = record { edition = 2014; opened = Some (on 2025 4 30 0); is_open = false };
      groups = map (with_level expanded) (collected 45).groups;
    }

pub narrow_under2014 :
    outcome all_expanded corn_group (opens may1 ∷ [])
    ≡ record { events = []; level = initial; mark = false; limits = limits 440 680 ∷ [] }
unfolding state_of
narrow_under2014 = in_one_run _ _ _ _ refl

-- ---- the dropped mark
-- the first day of the season allows I and not E
pub narrow_first_day :
    answers_after (collected 42) (february ++ opens may1 ∷ []) (one_contract corn jul25 6962 ∷ one_contract corn jul25 6960 ∷ [])
    ≡ refused 10 ∷ accepted filed ∷ []
unfolding state_of
narrow_first_day = refl

-- up by I, then by E
abbrev may : List Call
may = four_move may1 6960 5500 4600 2320 ++ four_move (on 2025 5 2 20) 7640 5500 4600 2320

-- the first day at E is held and marked, and not raised by February's mark
pub not_raised :
    outcome (collected 42) corn_group (february ++ may)
    ≡ record {
      events = marking corn ++ Triggered (lead corn jul25) ∷ Held (lead corn jul25) ∷ [];
      level = expanded;
      mark = true;
      limits = limits 440 680 ∷ [];
    }
unfolding state_of
not_raised = in_one_run _ _ _ _ refl

-- the second is raised
pub raised_by_may :
    outcome (collected 42) corn_group (february ++ may ++ four_move (on 2025 5 5 19) 8320 5500 4600 2320)
    ≡ record {
      events = marking corn ++ Triggered (lead corn jul25) ∷ Held (lead corn jul25) ∷ Raised (lead corn jul25) ∷ [];
      level = initial;
      mark = false;
      limits = limits 680 1040 ∷ [];
    }
unfolding state_of
raised_by_may = in_one_run _ _ _ _ refl
