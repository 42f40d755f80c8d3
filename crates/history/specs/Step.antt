-- One call on a book: what its contract says of the answer and of the book after it, and nothing else.
use Rattle.std.specs.Prelude.{◌≡◌}
use Rattle.record.specs.Record.{Change, Question, Call, change, question, Answer, ask}
use Rattle.book.specs.declared.Book.{Book}
use Rattle.book.specs.Book.{view}
use Rattle.book.specs.Calls.{Responds}

pub data Step : Book → Call → Answer → Book → Type 0 where
  changes : {b z : Book} {c : Change} {a : Answer} → Responds b c a z → Step b (change c) a z
  -- a question leaves the very book
  asks : {b : Book} {q : Question} {a : Answer} → a ≡ ask (view b) q → Step b (question q) a b
