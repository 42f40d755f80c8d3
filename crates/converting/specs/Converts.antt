-- What a conversion promises, whatever the book.
use Rattle.std.specs.Prelude.{◌≡◌, None, Result}
use Rattle.grain.specs.declared.refusals.Refusal.{Refusal}
use Rattle.record.specs.Record.{convert, change, converted, Answer, refusal}
use Rattle.book.specs.declared.Book.{Book}
use Rattle.book.specs.Book.{view}
use Rattle.book.specs.Calls.{Responds, answer_as}

abbrev pub converted_as : Result (Unit {0}) Refusal → Answer
converted_as r = answer_as (λ _. converted) r

-- a book with its edition changed
abbrev pub with_2023 : Book → Book
with_2023 b = record b { edition = 2023 }

pub record Converts (b : Book) (r : Result (Unit {0}) Refusal) (after : Book) : Type 0 where
  pub responds : Responds b convert (converted_as r) after
  -- accepted, it changes the edition and nothing else: unused places stay too
  pub book : refusal (view b) (change convert) ≡ None → after ≡ with_2023 b
