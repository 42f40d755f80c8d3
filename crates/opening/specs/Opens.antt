-- What an opening promises, whatever the book and the date; and what it does to a product's limits and a group's level and mark.
use Rattle.std.specs.Prelude.{ℕ, Bool, false, ◌&&◌, cond, List, eqb, length, get_or, replicate, Option, Some, None, unwrap_or, Result, Ok, Err}
use Rattle.std.specs.List.{list_any}
use Rattle.grain.specs.Products.{product_count}
use Rattle.grain.specs.Amounts.{window_length, expanded_of, season_of}
use Rattle.grain.specs.declared.amounts.Limit.{Limit}
use Rattle.grain.specs.declared.refusals.Refusal.{Refusal}
use Rattle.record.specs.declared.Day.{Day}
use Rattle.record.specs.Record.{opening, opened, Answer}
use Rattle.book.specs.declared.standing.Standing.{Standing}
use Rattle.book.specs.declared.Book.{Book}
use Rattle.book.specs.Book.{no_standing}
use Rattle.book.specs.Calls.{Responds, answer_as}

abbrev pub day_on : ℕ → ℕ → ℕ → ℕ → Day
day_on year month day left = record { year = year; month = month; day = day; left = left }

abbrev pub opened_as : Result (List Bool) Refusal → Answer
opened_as r = answer_as opened r

abbrev pub Opens : Book → Day → Result (List Bool) Refusal → Book → Type 0
Opens b d r after = Responds b (opening d) (opened_as r) after

-- a refused opening says no for every product
abbrev pub renewed_in : Result (List Bool) Refusal → List Bool
renewed_in (Ok l) = l
renewed_in (Err e) = replicate product_count false

-- one season later, with a full window
abbrev pub is_renewed_by : Bool → List ℕ → Bool
is_renewed_by renews window = renews && eqb (length window) window_length

-- the season limits, where the product gets them
abbrev pub new_limit : Bool → List ℕ → ℕ → Option Limit
new_limit renews window p =
    cond (is_renewed_by renews window)
    (Some (record { initial = season_of p window; expanded = expanded_of p (season_of p window) }))
    None

-- and otherwise those that it has
abbrev pub limit_on : Bool → List ℕ → ℕ → Limit → Limit
limit_on renews window p limit = unwrap_or (new_limit renews window p) limit

-- the answers for all products say yes for one of these
abbrev pub is_one_renewed : List Bool → List ℕ → Bool
is_one_renewed renewed ps = list_any (λ p. get_or renewed p false) ps

-- a group with new limits starts at the initial level, with no mark
abbrev pub standing_on : Bool → Standing → Standing
standing_on is_renewed s = cond is_renewed no_standing s
