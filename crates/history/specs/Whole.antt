-- Whole lists of openings, sheets, ends, conversions and checks, refused ones included, from a fresh book. proofs/Proved.antt has the proofs.
use Rattle.std.specs.Prelude.{ℕ, ◌<◌, ◌≡◌, true, not, cond, List, ◌++◌, Some, Result, Ok}
use Rattle.std.specs.List.{list_any}
use Rattle.grain.specs.declared.refusals.Refusal.{Refusal}
use Rattle.grain.specs.Lists.{every}
use Rattle.grain.specs.Products.{product_count}
use Rattle.grain.specs.Check.{span_in, is_within}
use Rattle.grain.specs.declared.check.Span.{Span}
use Rattle.grain.specs.declared.check.Verdict.{Verdict}
use Rattle.grain.specs.declared.check.Verdict.TheVariants.{Free}
use Rattle.record.specs.Refusals.{unsound}
use Rattle.record.specs.State.{Record, group_of, group_at, product_in}
use Rattle.record.specs.Founding.{Start, founded}
use Rattle.record.specs.Record.{Call, Answer, answers}
use Rattle.record.specs.History.{kept, SameFor}
use Rattle.record.specs.Theorems.{after, is_refusal, has_raised, is_conversion, Together, BetweenLimits, Resent}
use Rattle.sheets.specs.Sheets.{sheet_in}
use Rattle.book.specs.declared.Book.{Book}
use Rattle.book.specs.Book.{is_set, opened_in, limit_in, window_of, standing_in, today_in, last_in, level_of, view}
use Rattle.book.specs.Founding.{Founds}
use Rattle.checking.specs.Checks.{book_answer, Checks}
use Rattle.history.specs.Step.{Step}
use Rattle.history.specs.Trace.{Trace}

-- A list of calls on a fresh book, which is what an accepted founding returns; their answers, and the book that they leave.
pub record Run (s : Start) (cs : List Call) (rs : List Answer) (z : Book) : Type 0 where
  pub fresh : Book
  pub founds : Founds s (Ok fresh)
  pub trace : Trace Step fresh cs rs z

-- what a book holds of a product is what a Record holds of it
pub record SameProduct (z : Book) (r : Record) (p : ℕ) : Type 0 where
  pub initial_limit : (limit_in z p).initial ≡ (product_in (group_at r (group_of p)) p).initial_limit
  pub expanded_limit : (limit_in z p).expanded ≡ (product_in (group_at r (group_of p)) p).expanded_limit
  pub window : window_of z p ≡ (product_in (group_at r (group_of p)) p).window
  pub today : sheet_in (today_in z p) ≡ (product_in (group_at r (group_of p)) p).today
  pub last : sheet_in (last_in z p) ≡ (product_in (group_at r (group_of p)) p).last
  pub level : level_of (is_set (standing_in z (group_of p)).expanded) ≡ (group_at r (group_of p)).level
  pub mark : is_set (standing_in z (group_of p)).marked ≡ (group_at r (group_of p)).mark

-- all that is compared: the edition, whether a day is open, the last opened date with its left, and each product's contents
pub record SameContents (z : Book) (r : Record) : Type 0 where
  pub edition : z.edition ≡ r.common.edition
  pub is_open : is_set z.is_open ≡ r.common.is_open
  pub opened : opened_in z ≡ r.common.opened
  pub products : (p : ℕ) → p < product_count → SameProduct z r p

pub record WholeHistory : Type 0 where
  -- every answer and refusal number is the Record's, from the edition, the founding limits and the calls' arguments alone
  pub answered : (s : Start) (cs : List Call) (rs : List Answer) (z : Book) → Run s cs rs z → rs ≡ answers (founded s) cs
  -- and what the book holds after the list is what the Record holds, as a whole and part by part
  pub contents : (s : Start) (cs : List Call) (rs : List Answer) (z : Book) → Run s cs rs z → view z ≡ after s cs
  pub compared : (s : Start) (cs : List Call) (rs : List Answer) (z : Book) → Run s cs rs z → SameContents z (after s cs)
  -- no call of a list answers 1
  pub never_unsound :
      (s : Start) (cs : List Call) (rs : List Answer) (z : Book) → Run s cs rs z
      → every (λ a. not (is_refusal unsound a)) rs ≡ true
  -- the book is of the edition that it was founded under until a conversion is accepted, and then of 2023
  pub edition_after :
      (s : Start) (cs : List Call) (rs : List Answer) (z : Book) → Run s cs rs z
      → z.edition ≡ cond (list_any is_conversion (kept cs rs)) 2023 s.edition
  -- while it is of 2014 no group is raised
  pub never_raised :
      (s : Start) (cs : List Call) (rs : List Answer) (z : Book) → Run s cs rs z → z.edition ≡ 2014
      → every (λ a. not (has_raised a)) rs ≡ true
  -- the products of a group stand on one level
  pub together : (s : Start) (cs : List Call) (rs : List Answer) (z : Book) → Run s cs rs z → Together (view z)
  -- said of checks: of two products of one group, two prices, each between its product's limits, are both within or both not
  pub coupled :
      (s : Start) (cs : List Call) (rs : List Answer) (z : Book) → Run s cs rs z
      → (p q i j m n x y : ℕ) (v w : Verdict) → group_of p ≡ group_of q
      → BetweenLimits (view z) p m x → BetweenLimits (view z) q n y
      → Checks z p i m x (Ok v) → Checks z q j n y (Ok w) → is_within v ≡ is_within w
  -- an order that is sent again at an end of the span that its check showed is within, and so are those between, and no others
  pub resent :
      (s : Start) (cs : List Call) (rs : List Answer) (z : Book) → Run s cs rs z
      → (p size month price : ℕ) (v : Verdict) (allowed : Span) → Checks z p size month price (Ok v) → span_in v ≡ Some allowed
      → Resent (view z) p size month allowed
  -- a contract month that a check found free is free in every later check that is answered, of any product and price
  pub stays_free :
      (s : Start) (cs ds : List Call) (rs ts : List Answer) (y z : Book) → Run s cs rs y → Run s (cs ++ ds) ts z
      → (p q i j month x w : ℕ) (v : Verdict) → Checks y p i month x (Ok Free) → Checks z q j month w (Ok v) → v ≡ Free
  -- two lists of one founding edition and one set of founding limits that agree on the accepted openings, ends and conversions and on one
  -- group's sheets of each day: the same day is open after both, or none, and the edition is the same
  pub same_day :
      (s : Start) (g : ℕ) (cs ds : List Call) (rs ts : List Answer) (y z : Book)
      → Run s cs rs y → Run s ds ts z → SameFor g (kept cs rs) (kept ds ts) → (view y).common ≡ (view z).common
  -- that group is the same
  pub same_group :
      (s : Start) (g : ℕ) (cs ds : List Call) (rs ts : List Answer) (y z : Book)
      → Run s cs rs y → Run s ds ts z → SameFor g (kept cs rs) (kept ds ts) → group_at (view y) g ≡ group_at (view z) g
  -- any price check on it is answered the same, with the same refusal number where it is refused
  pub same_answers :
      (s : Start) (g : ℕ) (cs ds : List Call) (rs ts : List Answer) (y z : Book)
      → Run s cs rs y → Run s ds ts z → SameFor g (kept cs rs) (kept ds ts)
      → (p size month price : ℕ) → group_of p ≡ g → book_answer y p size month price ≡ book_answer z p size month price
  -- and so has the same result
  pub same_checks :
      (s : Start) (g : ℕ) (cs ds : List Call) (rs ts : List Answer) (y z : Book)
      → Run s cs rs y → Run s ds ts z → SameFor g (kept cs rs) (kept ds ts)
      → (p size month price : ℕ) (v w : Result Verdict Refusal) → group_of p ≡ g
      → Checks y p size month price v → Checks z p size month price w → v ≡ w
