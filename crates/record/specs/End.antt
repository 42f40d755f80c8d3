-- The end of a day: for each group its event with the leading contract, its level, mark and limits.
use Rattle.std.specs.Prelude.{Bool, true, false, ◌&&◌, ◌||◌, cond, List, [], ◌∷◌, map, ltb, eqb, Option, Some, None}
use Rattle.std.specs.List.{list_any}
use Rattle.grain.specs.Amounts.{expanded_of}
use Rattle.record.specs.Choices.{keep, concat_map}
use Rattle.record.specs.State.{Day, Level, initial, expanded, Product, Group, Common, with_level, with_mark, with_products, with_limits, with_window, with_sheets, day_of, sheet_or}
use Rattle.record.specs.Window.{window_after}
use Rattle.record.specs.Move.{Move, group_moves, is_trigger, is_at_expanded}
use Rattle.record.specs.Edition.{Conditions, conditions_of}
-- the leading contract, and a group's event with it
pub use Rattle.record.specs.declared.Lead.{Lead}
pub use Rattle.record.specs.declared.Event.{Event}
pub use Rattle.record.specs.declared.Event.TheVariants.{Quiet, Triggered, Held, Reverted, Raised}

-- the nearer month, then the lower product number
abbrev pub is_ahead : Lead → Lead → Bool
is_ahead a b = ltb a.month b.month || (eqb a.month b.month && ltb a.product b.product)

abbrev pub ahead_of : Lead → Option Lead → Lead
ahead_of a None = a
ahead_of a (Some b) = cond (is_ahead b a) b a

-- the leading contract of those that meet an event's condition
abbrev pub leading : List Move → Option Lead
leading [] = None
leading (m ∷ ms) = Some (ahead_of (record { month = m.month; product = m.product }) (leading ms))

-- the event that a contract leads, or the other one where none meets the condition
abbrev pub led_by : Option Lead → (Lead → Event) → Event → Event
led_by None event other = other
led_by (Some l) event other = event l

-- of a product's moves, those that trigger, if they are enough
abbrev pub triggering : Conditions → List Move → List Move
triggering k ms = let l = keep is_trigger ms in cond (k.are_enough l) l []

-- those that raise: exactly E, where the ended day before is marked
abbrev pub raising : Bool → List (List Move) → List Move
raising true mss = concat_map (keep is_at_expanded) mss
raising false mss = []

-- from the moves of each product: an event's candidates are found in each, and are led together
-- there is a leading contract, and with it the event, exactly where some contract meets the event's condition,
-- to trigger under 2014 where those of a product are enough
unfoldable pub event_of : Conditions → Level → Bool → List (List Move) → Event
event_of k initial mark mss = led_by (leading (concat_map (triggering k) mss)) Triggered Quiet
event_of k expanded mark mss =
    led_by (leading (raising mark mss)) Raised
    (led_by (leading (concat_map (keep k.is_holding) mss)) Held Reverted)

unfoldable pub group_event : Common → Group → Event
group_event c g = event_of (conditions_of c.edition) g.level g.mark (group_moves (day_of c) g)

abbrev pub level_after : Event → Level
level_after Quiet = initial
level_after (Triggered l) = expanded
level_after (Held l) = expanded
level_after Reverted = initial
level_after (Raised l) = initial

-- held with a move of exactly E is marked, where there are marks; every other event clears the mark
abbrev pub mark_after : Event → Bool → Bool
mark_after Quiet at_expanded = false
mark_after (Triggered l) at_expanded = false
mark_after (Held l) at_expanded = at_expanded
mark_after Reverted at_expanded = false
mark_after (Raised l) at_expanded = false

abbrev pub is_raised : Event → Bool
is_raised Quiet = false
is_raised (Triggered l) = false
is_raised (Held l) = false
is_raised Reverted = false
is_raised (Raised l) = true

-- raised: I = old E, and E afresh
unfoldable pub end_product : Day → Event → Product → Product
end_product d e q =
    with_limits (cond (is_raised e) q.expanded_limit q.initial_limit)
    (cond (is_raised e) (expanded_of q.number q.expanded_limit) q.expanded_limit)
    (with_window (window_after d q.number q.window (sheet_or q.today)) (with_sheets None q.today q))

unfoldable pub end_group : Common → Group → Group
end_group c g =
    let d = day_of c in
    let e = group_event c g in
    let marked = (conditions_of c.edition).has_marks && list_any (list_any is_at_expanded) (group_moves d g) in
    with_level (level_after e) (with_mark (mark_after e marked) (with_products (map (end_product d e) g.products) g))
