-- What a change of a book promises, whatever the book and the arguments; and a call's result in the Record's terms.
use Rattle.std.specs.Prelude.{ℕ, ◌≡◌, Option, Some, None, Result, Ok, Err}
use Rattle.grain.specs.Refusals.{number_of}
use Rattle.grain.specs.declared.refusals.Refusal.{Refusal}
use Rattle.record.specs.Record.{Change, change, Accepted, Answer, refused, accepted, refusal, respond}
use Rattle.book.specs.declared.Book.{Book}
use Rattle.book.specs.Book.{view}

-- The answer and the contents of the book after it are the Record's; a refused change leaves the very book, unused places too.
pub record Responds (b : Book) (c : Change) (a : Answer) (after : Book) : Type 0 where
  pub answer : a ≡ (respond (view b) (change c)).answer
  pub state : view after ≡ (respond (view b) (change c)).state
  pub unchanged : (n : ℕ) → refusal (view b) (change c) ≡ Some n → after ≡ b

-- a call's result as the Record answers it, where f says what it gives
abbrev pub answer_as : {A : Type 0} → (A → Accepted) → Result A Refusal → Answer
answer_as f (Ok a) = accepted (f a)
answer_as f (Err r) = refused (number_of r)

-- the number of the refusal, where there is one
abbrev pub refusal_in : {A : Type 0} → Result A Refusal → Option ℕ
refusal_in (Ok a) = None
refusal_in (Err r) = Some (number_of r)
