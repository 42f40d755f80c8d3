-- Checks on books through one tally, one after another: what is shown of every list of them is the tally's own theorem (ThroughOneTally).
use Rattle.std.specs.Prelude.{ℕ}
use Rattle.record.specs.Record.{Answer, refused}
use Rattle.record.specs.Theorems.{is_refusal}
use Rattle.book.specs.declared.Book.{Book}
use Rattle.checking.specs.Checks.{book_answer}
use Rattle.tally.specs.Tally.{tally_full}
use Rattle.tally.specs.Through.{TalliedCall, ThroughOneTally}
use Rattle.tallying.specs.Tallies.{kind_of, Tallies}

-- one check; each may be on another book
pub record Ask : Type 0 where
  pub book : Book
  pub product : ℕ
  pub size : ℕ
  pub month : ℕ
  pub price : ℕ

abbrev pub book_checks : TalliedCall
book_checks =
    record {
      Ask = Ask;
      Answer = Answer;
      answer_to = λ c. book_answer c.book c.product c.size c.month c.price;
      kind_of = kind_of;
      refused = refused;
      is_tally_full = is_refusal tally_full;
      Promise = λ t c a u. Tallies c.book t c.product c.size c.month c.price a u;
    }

-- From six zeros asked is the number of counted checks, and each count the number of the answers of its kind; a sound tally stays sound;
-- until it is full each answer is its book's; 1 before 15.
abbrev pub BooksThroughOneTally : Type 0
BooksThroughOneTally = ThroughOneTally book_checks
