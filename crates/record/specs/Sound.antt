-- A sound Record: every field in its range, and the parts in agreement.
use Rattle.std.specs.Prelude.{ℕ, Bool, true, false, not, ◌&&◌, ◌||◌, List, map, leb, eqb, length, Option, Some, None, is_some}
use Rattle.grain.specs.Lists.{◌and◌, every, is_ascending}
use Rattle.grain.specs.Products.{is_product, is_traded}
use Rattle.grain.specs.Prices.{is_settlement}
use Rattle.grain.specs.Amounts.{window_length, expanded_of, is_fit_amount}
use Rattle.record.specs.State.{max_contracts, Day, Contract, Sheet, Level, initial, expanded, Product, Group, Record}
use Rattle.record.specs.Edition.{is_edition, conditions_of}
use Rattle.record.specs.Opening.{is_true_day}

-- 1 to 16 contracts, months as in 7 without the date test, settlements on the standard tick
unfoldable pub is_sound_sheet : ℕ → Option Sheet → Bool
is_sound_sheet p None = true
is_sound_sheet p (Some s) =
    leb 1 (length s) and leb (length s) max_contracts
    and is_ascending (map (λ (c : Contract). c.month) s)
    and every (is_traded p) (map (λ (c : Contract). c.month) s)
    and every (is_settlement p) (map (λ (c : Contract). c.settlement) s)

unfoldable pub is_sound_window : Product → Bool
is_sound_window q = leb (length q.window) window_length and every (is_settlement q.number) q.window

unfoldable pub is_sound_product : Product → Bool
is_sound_product q =
    is_product q.number and is_fit_amount q.number q.initial_limit
    and eqb q.expanded_limit (expanded_of q.number q.initial_limit)
    and is_sound_window q
    and is_sound_sheet q.number q.today
    and is_sound_sheet q.number q.last

abbrev pub is_expanded : Level → Bool
is_expanded initial = false
is_expanded expanded = true

-- a mark only on an expanded group, of an edition that has marks
unfoldable pub is_sound_group : ℕ → Group → Bool
is_sound_group edition g =
    (not g.mark || (is_expanded g.level && (conditions_of edition).has_marks)) and every is_sound_product g.products

-- a date where a day is open
unfoldable pub is_sound_date : Option Day → Bool → Bool
is_sound_date None is_open = not is_open
is_sound_date (Some d) is_open = is_true_day d

abbrev pub every_product : (Product → Bool) → List Group → Bool
every_product f gs = every (λ g. every f g.products) gs

abbrev pub has_no_sheet_in : Product → Bool
has_no_sheet_in q = not (is_some q.today)

abbrev pub has_last : Product → Bool
has_last q = is_some q.last

abbrev pub has_no_last : Product → Bool
has_no_last q = not (is_some q.last)

-- an edition of the rule; no sheet in while no day is open; last ended sheets all, with a date, or none
-- It judges the groups that the Record has, and does not ask that they are those of the table: a founded Record has those, and every call
-- keeps them.
unfoldable pub is_sound : Record → Bool
is_sound r =
    is_edition r.common.edition and is_sound_date r.common.opened r.common.is_open
    and every (is_sound_group r.common.edition) r.groups
    and (r.common.is_open || every_product has_no_sheet_in r.groups)
    and ((is_some r.common.opened and every_product has_last r.groups) || every_product has_no_last r.groups)
