-- A check through a tally, the bare one and that on a book: what it promises, whatever the tally, the struct and the numbers.
use Rattle.std.specs.Prelude.{ℕ, ◌≡◌, cond, eqb, unwrap_or}
use Rattle.grain.specs.Check.{free, within, below, above}
use Rattle.grain.specs.Bare.{bare_check}
use Rattle.tally.specs.declared.Tally.{Tally}
use Rattle.tally.specs.declared.kinds.Kind.{Kind}
use Rattle.tally.specs.declared.kinds.Kind.TheVariants.{Free, Within, Below, Above, Refused}
use Rattle.tally.specs.Tally.{tally_refusal, counted}
use Rattle.gateway.specs.declared.image.Image.{Image}
use Rattle.gateway.specs.Calls.{image_check}

-- what an answer's number is counted as
unfoldable pub kind_of_number : ℕ → Kind
kind_of_number n =
    cond (eqb n free) Free (cond (eqb n within) Within (cond (eqb n below) Below (cond (eqb n above) Above Refused)))

-- a check that alone returns n: 1 and 15 are the tally's own; every other answer is the check's, and is counted
pub record Tallies (n : ℕ) (t : Tally) (r : ℕ) (after : Tally) : Type 0 where
  pub answer : r ≡ unwrap_or (tally_refusal t) n
  pub tally : after ≡ counted t (kind_of_number n)

abbrev pub TalliesBare : Tally → ℕ → ℕ → ℕ → ℕ → ℕ → ℕ → ℕ → Tally → Type 0
TalliesBare t product size settlement amount spot price r after = Tallies (bare_check product size settlement amount spot price) t r after

-- of a check on a book, which is lent to read only; the book's own 1 is counted as refused
abbrev pub TalliesImage : Tally → Image → ℕ → ℕ → ℕ → ℕ → ℕ → Tally → Type 0
TalliesImage t i product size month price r after = Tallies (image_check i product size month price) t r after
