-- Two lists of calls that have one history of the Soybean Complex and differ in everything else, computed.
use mathlib.Core.Path.{◌≡◌, refl, sym, ◌∙◌}
use mathlib.Core.Bool.{true, false}
use mathlib.Core.List.{List, [], ◌∷◌}
use Rattle.std.specs.Prelude.{Option, Some, None}
use Rattle.record.specs.State.{Sheet}
use Rattle.record.specs.Record.{Call}
use Rattle.record.specs.History.{Milestone, day_opened, book_converted, milestones_of, sheets_of, products_of, SameFor}
use Rattle.record.specs.Theorems.{history_of}
use Rattle.record.proofs.Examples.{corn, soybeans, oil, meal, chicago_wheat, kc_wheat, oats, rice, complex, jul24, jul25, june3, june4, june5, old_start, opens, files, ends, converts, checks, one_contract, corn_months, flat, state_of}

-- a day is ended under 2014; on the next, under 2023, Oil's sheet is in
abbrev some_calls : List Call
some_calls =
    opens june3
    ∷ files corn corn_months flat
    ∷ one_contract soybeans jul25 8000
    ∷ one_contract oil jul25 5000
    ∷ one_contract meal jul25 4000
    ∷ one_contract chicago_wheat jul25 4000
    ∷ one_contract kc_wheat jul25 4000
    ∷ one_contract oats jul25 1920
    ∷ one_contract rice jul25 3000
    ∷ ends
    ∷ converts
    ∷ opens june4
    ∷ one_contract oil jul25 5200
    ∷ []

-- other sheets of the other groups, another order, checks, and calls that are refused
abbrev other_calls : List Call
other_calls =
    ends
    ∷ opens june3
    ∷ opens june4
    ∷ one_contract meal jul25 4000
    ∷ one_contract rice jul24 2999
    ∷ one_contract oil jul25 5000
    ∷ ends
    ∷ one_contract oil jul25 5001
    ∷ one_contract oats jul24 1922
    ∷ checks soybeans 0 jul25 8000
    ∷ one_contract corn jul24 4002
    ∷ one_contract kc_wheat jul24 4004
    ∷ one_contract soybeans jul25 8000
    ∷ one_contract chicago_wheat jul24 4006
    ∷ converts
    ∷ ends
    ∷ opens june3
    ∷ converts
    ∷ opens june4
    ∷ converts
    ∷ checks soybeans 0 jul25 8400
    ∷ one_contract corn jul24 4202
    ∷ one_contract oil jul25 5200
    ∷ one_contract meal jul25 9000
    ∷ opens june5
    ∷ []

-- the openings, ends and conversions of both, latest first
abbrev the_milestones : List Milestone
the_milestones = day_opened june4 false ∷ book_converted ∷ day_opened june3 true ∷ []

-- the sheets of Soybeans, Oil and Meal of both
abbrev the_sheets : List (List (Option Sheet))
the_sheets =
    (None ∷ Some (record { month = jul25; settlement = 5200 } ∷ []) ∷ None ∷ [])
    ∷ []
    ∷ (Some (record { month = jul25; settlement = 8000 } ∷ [])
    ∷ Some (record { month = jul25; settlement = 5000 } ∷ [])
    ∷ Some (record { month = jul25; settlement = 4000 } ∷ [])
    ∷ [])
    ∷ []

some_milestones : milestones_of (history_of old_start some_calls) ≡ the_milestones
unfolding state_of
some_milestones = refl

other_milestones : milestones_of (history_of old_start other_calls) ≡ the_milestones
unfolding state_of
other_milestones = refl

some_sheets : sheets_of (products_of complex) (history_of old_start some_calls) ≡ the_sheets
unfolding state_of
some_sheets = refl

other_sheets : sheets_of (products_of complex) (history_of old_start other_calls) ≡ the_sheets
unfolding state_of
other_sheets = refl

-- so that what is shown of two such lists is not empty
pub same_complex : SameFor complex (history_of old_start some_calls) (history_of old_start other_calls)
same_complex = record { milestones = some_milestones ∙ sym other_milestones; sheets = some_sheets ∙ sym other_sheets }
