-- The opening of a day.
use Rattle.std.specs.Prelude.{ℕ, ◌+◌, ◌*◌, Bool, false, not, ◌&&◌, cond, List, [], ◌∷◌, map, leb, eqb, length, Option, Some, None}
use Rattle.std.specs.List.{list_any}
use Rattle.grain.specs.Amounts.{window_length, expanded_of, season_of}
use Rattle.grain.specs.Dates.{is_date, days_remaining, season_number}
use Rattle.grain.specs.Refusals.{no_such_date}
use Rattle.record.specs.Refusals.{Test, when, wrong_phase, not_later, left_not_smaller}
use Rattle.record.specs.State.{Day, initial, Product, Group, Common, with_level, with_mark, with_products, with_limits, with_window, month_of}

-- a date, with left at most the days remaining in its month
unfoldable pub is_true_day : Day → Bool
is_true_day d = is_date d.year d.month d.day && leb d.left (days_remaining d.year d.month d.day)

abbrev pub date_number : Day → ℕ
date_number d = d.year * 10000 + d.month * 100 + d.day

abbrev pub is_not_later : Option Day → Day → Bool
is_not_later None d = false
is_not_later (Some before) d = leb (date_number d) (date_number before)

abbrev pub is_same_month : Day → Day → Bool
is_same_month before d = eqb d.year before.year && eqb d.month before.month

-- in the month of the last opened day, with a left that has not fallen since
abbrev pub is_left_not_smaller : Option Day → Day → Bool
is_left_not_smaller None d = false
is_left_not_smaller (Some before) d = is_same_month before d && leb before.left d.left

-- the refusals after 1, in their order
unfoldable pub opening_tests : Common → Day → List Test
opening_tests c d =
    when c.is_open wrong_phase
    ∷ when (not (is_true_day d)) no_such_date
    ∷ when (is_not_later c.opened d) not_later
    ∷ when (is_left_not_smaller c.opened d) left_not_smaller
    ∷ []

abbrev pub season_on : Day → ℕ
season_on d = season_number (month_of d)

-- exactly one season after that of the last opened day
abbrev pub is_next_season : Option Day → Day → Bool
is_next_season None d = false
is_next_season (Some before) d = eqb (season_on d) (season_on before + 1)

abbrev pub is_other_season : Option Day → Day → Bool
is_other_season None d = false
is_other_season (Some before) d = not (eqb (season_on d) (season_on before))

-- the product gets its season limits
unfoldable pub is_renewed : Common → Day → Product → Bool
is_renewed c d q = is_next_season c.opened d && eqb (length q.window) window_length

unfoldable pub open_product : Common → Day → Product → Product
open_product c d q =
    let i = cond (is_renewed c d q) (season_of q.number q.window) q.initial_limit in
    let e = cond (is_renewed c d q) (expanded_of q.number i) q.expanded_limit in
    with_limits i e (with_window (cond (is_other_season c.opened d) [] q.window) q)

-- a product of the group gets its season limits
unfoldable pub has_new_limits : Common → Day → Group → Bool
has_new_limits c d g = list_any (is_renewed c d) g.products

-- a group with new limits starts the season at the initial level, with no mark; any other keeps its level and mark
unfoldable pub open_group : Common → Day → Group → Group
open_group c d g =
    with_level (cond (has_new_limits c d g) initial g.level)
    (with_mark (cond (has_new_limits c d g) false g.mark) (with_products (map (open_product c d) g.products) g))
