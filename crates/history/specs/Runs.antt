-- What making a list of calls promises, whatever the book, the calls and the places for their answers.
use Rattle.std.specs.Prelude.{◌≡◌, List, map, length, take, drop, Result}
use Rattle.grain.specs.declared.refusals.Refusal.{Refusal}
use Rattle.record.specs.Record as the_record
use Rattle.record.specs.Record.{answers, state_after}
use Rattle.book.specs.declared.Book.{Book}
use Rattle.book.specs.Book.{view}
use Rattle.history.specs.declared.calls.Call.{Call}
use Rattle.history.specs.declared.calls.Reply.{Reply}
use Rattle.history.specs.Calls.{call_as, told}
use Rattle.history.specs.Step.{Step}
use Rattle.history.specs.Trace.{Trace}

-- a call is made where there is a place for what it is answered
abbrev pub made : List Call → List (Result Reply Refusal) → List the_record.Call
made calls places = map call_as (take (length places) calls)

-- what the calls are answered
abbrev pub answered : List Call → List (Result Reply Refusal) → List the_record.Answer
answered calls replies = map told (take (length calls) replies)

pub record Runs (b : Book) (calls : List Call) (places replies : List (Result Reply Refusal)) (after : Book) : Type 0 where
  -- each call on the book that the one before left
  pub trace : Trace Step b (made calls places) (answered calls replies) after
  -- every answer and the contents of the book after the list are the Record's
  pub answers : answered calls replies ≡ answers (view b) (made calls places)
  pub contents : view after ≡ state_after (view b) (made calls places)
  -- places beyond the list stay as they are
  pub rest : drop (length calls) replies ≡ drop (length calls) places
