-- What a check on a book through a tally promises, whatever the book, the tally, product, size, month and price.
use Rattle.std.specs.Prelude.{ℕ, ◌≡◌, unwrap_or}
use Rattle.std.specs.Option.{option_map}
use Rattle.record.specs.Record.{checked, Answer, refused, accepted}
use Rattle.book.specs.declared.Book.{Book}
use Rattle.checking.specs.Checks.{book_answer}
use Rattle.tally.specs.declared.Tally.{Tally}
use Rattle.tally.specs.declared.kinds.Kind.{Kind}
use Rattle.tally.specs.declared.kinds.Kind.TheVariants.{Refused}
use Rattle.tally.specs.Tally.{tally_refusal, kind_of_verdict, counted}

-- what an answer is counted as
abbrev pub kind_of : Answer → Kind
kind_of (accepted (checked v)) = kind_of_verdict v
kind_of (refused n) = Refused
-- no check is answered so
kind_of (accepted a) = Refused

-- 15 and a tally's 1 are the tally's own; every other answer is the book's, and is counted, the book's own 1 too.
-- The book is lent to read only, and stays as it is.
pub record Tallies (b : Book) (t : Tally) (p size month price : ℕ) (a : Answer) (after : Tally) : Type 0 where
  pub answer : a ≡ unwrap_or (option_map refused (tally_refusal t)) (book_answer b p size month price)
  pub tally : after ≡ counted t (kind_of (book_answer b p size month price))
