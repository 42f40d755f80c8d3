-- What an end promises, whatever the book; and what it does to a group's standing and a product's limits.
use Rattle.std.specs.Prelude.{ℕ, Bool, ◌&&◌, cond, List, get_or, Result}
use Rattle.std.specs.List.{list_any}
use Rattle.grain.specs.Amounts.{expanded_of}
use Rattle.grain.specs.declared.amounts.Limit.{Limit}
use Rattle.grain.specs.declared.refusals.Refusal.{Refusal}
use Rattle.grain.specs.declared.spot.TradeDate.{TradeDate}
use Rattle.record.specs.declared.Event.{Event}
use Rattle.record.specs.declared.Event.TheVariants.{Quiet}
use Rattle.record.specs.Edition.{conditions_of}
use Rattle.record.specs.Move.{is_at_expanded}
use Rattle.record.specs.End.{level_after, mark_after, event_of}
use Rattle.record.specs.Sound.{is_expanded}
use Rattle.record.specs.Record.{end, ended, Answer}
use Rattle.record.specs.History.{products_of}
use Rattle.book.specs.declared.standing.Standing.{Standing}
use Rattle.book.specs.declared.Book.{Book}
use Rattle.book.specs.Book.{flag_word, is_set, standing_in, level_of}
use Rattle.book.specs.Calls.{Responds, answer_as}
use Rattle.ending.specs.Lead.{moves_of}

abbrev pub quiet : Event
quiet = Quiet

abbrev pub ended_as : Result (List Event) Refusal → Answer
ended_as r = answer_as ended r

abbrev pub Ends : Book → Result (List Event) Refusal → Book → Type 0
Ends b r after = Responds b end (ended_as r) after

-- the event of a group of a book
abbrev pub event_in : Book → TradeDate → ℕ → Event
event_in b date g =
    event_of (conditions_of b.edition) (level_of (is_set (standing_in b g).expanded)) (is_set (standing_in b g).marked) (moves_of b date (products_of g))

abbrev pub standing_after : Event → Bool → Standing
standing_after e at_expanded = record { expanded = flag_word (is_expanded (level_after e)); marked = flag_word (mark_after e at_expanded) }

-- the standing of a group of a book after its event
abbrev pub standing_of_end : Book → TradeDate → List Event → ℕ → Standing
standing_of_end b date es g =
    standing_after (get_or es g quiet) ((conditions_of b.edition).has_marks && list_any (list_any is_at_expanded) (moves_of b date (products_of g)))

-- raised: I = old E, and E afresh
abbrev pub limit_after : Bool → ℕ → Limit → Limit
limit_after raised p limit =
    cond raised (record { initial = limit.expanded; expanded = expanded_of p limit.expanded }) limit
