-- What a check promises, whatever the book, product, size, month and price.
use Rattle.std.specs.Prelude.{ℕ, ◌≡◌, Result}
use Rattle.grain.specs.declared.check.Verdict.{Verdict}
use Rattle.grain.specs.declared.refusals.Refusal.{Refusal}
use Rattle.record.specs.Record.{check, checked, Answer, ask}
use Rattle.book.specs.declared.Book.{Book}
use Rattle.book.specs.Book.{view}
use Rattle.book.specs.Calls.{answer_as}

abbrev pub checked_as : Result Verdict Refusal → Answer
checked_as r = answer_as checked r

-- what the Record of the book answers to a check
abbrev pub book_answer : Book → ℕ → ℕ → ℕ → ℕ → Answer
book_answer b p size month price = ask (view b) (check p size month price)

-- The answer is the Record's. The book is lent to read only, and stays as it is.
abbrev pub Checks : Book → ℕ → ℕ → ℕ → ℕ → Result Verdict Refusal → Type 0
Checks b p size month price r = checked_as r ≡ book_answer b p size month price
