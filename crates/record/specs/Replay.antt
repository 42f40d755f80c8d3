-- The Record's contents from a history alone: each day is opened, gets its sheets at once, and is ended, under the edition of its time.
use Rattle.std.specs.Prelude.{Bool, true, false, not, List, [], ◌∷◌, map, Option, Some, None}
use Rattle.record.specs.State.{Sheet, Product, Group, Common, Record, with_edition, with_opened, with_is_open, with_products, with_today}
use Rattle.record.specs.Opening.{open_group}
use Rattle.record.specs.End.{end_group}
use Rattle.record.specs.History.{ProductSheet, Entry, a_day, a_conversion, sheet_among}

-- a sheet that came, or else what was there
abbrev pub over : Option Sheet → Option Sheet → Option Sheet
over None o = o
over (Some s) o = Some s

unfoldable pub product_with : List ProductSheet → Product → Product
product_with fs q = with_today (over (sheet_among fs q.number) q.today) q

-- a group with the sheets of a day in
unfoldable pub group_with : List ProductSheet → Group → Group
group_with fs g = with_products (map (product_with fs) g.products) g

abbrev pub ended_if : Bool → Common → Group → Group
ended_if true c g = end_group c g
ended_if false c g = g

-- what an entry makes of what is common before it
abbrev pub common_by : Entry → Common → Common
common_by (a_day k) c = with_opened (Some k.day) (with_is_open (not k.is_ended) c)
-- no day is open at a conversion, nor after it
common_by a_conversion c = with_edition 2023 (with_is_open false c)

-- what an entry makes of a group; c is common before it
abbrev pub group_by : Entry → Common → Group → Group
group_by (a_day k) c g =
    ended_if k.is_ended (with_opened (Some k.day) (with_is_open true c))
    (group_with k.sheets (open_group c k.day g))
group_by a_conversion c g = g

-- what is common after a history that began with c
abbrev pub common_after : List Entry → Common → Common
common_after [] c = c
common_after (e ∷ es) c = common_by e (common_after es c)

-- a group after a history, of which it sees what is common and its own products' sheets
unfoldable pub group_after : List Entry → Common → Group → Group
group_after [] c g = g
group_after (e ∷ es) c g = group_by e (common_after es c) (group_after es c g)

unfoldable pub replay : List Entry → Record → Record
replay es r =
    record { common = common_after es r.common; groups = map (group_after es r.common) r.groups }
