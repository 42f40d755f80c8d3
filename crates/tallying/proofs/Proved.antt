-- What holds of every list of checks on books through one tally.
use mathlib.Core.Path.{refl}
use Rattle.tally.specs.Through.{tallied_answer, tally_after}
use Rattle.tally.proofs.Totals.{Lawful}
use Rattle.tally.proofs.Proved.{through_one_tally}
use Rattle.tallying.specs.Through.{book_checks, BooksThroughOneTally}
use Rattle.tallying.proofs.BookAnswers.{book-counted}

lawful : Lawful book_checks
unfolding tallied_answer tally_after
lawful =
    record {
      answers = λ t c a u p. p.answer;
      tally = λ t c a u p. p.tally;
      not_full = λ c. book-counted c.book c.product c.size c.month c.price;
      says_full = refl;
    }

pub books_through_one_tally : BooksThroughOneTally
books_through_one_tally = through_one_tally book_checks lawful
