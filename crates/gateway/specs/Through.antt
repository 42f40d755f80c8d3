-- Bare checks through one tally, one after another, and checks on books: what is shown of every list of them is the tally's own theorem
-- (ThroughOneTally).
use Rattle.std.specs.Prelude.{ℕ, eqb}
use Rattle.grain.specs.Bare.{bare_check}
use Rattle.tally.specs.Tally.{tally_full}
use Rattle.tally.specs.Through.{TalliedCall, ThroughOneTally}
use Rattle.gateway.specs.declared.image.Image.{Image}
use Rattle.gateway.specs.Calls.{image_check}
use Rattle.gateway.specs.Tallied.{kind_of_number, TalliesBare, TalliesImage}

pub record Order : Type 0 where
  pub product : ℕ
  pub size : ℕ
  pub settlement : ℕ
  pub amount : ℕ
  pub spot : ℕ
  pub price : ℕ

-- the answers are numbers; no bare check answers 1 or 15
abbrev pub bare_checks : TalliedCall
bare_checks =
    record {
      Ask = Order;
      Answer = ℕ;
      answer_to = λ o. bare_check o.product o.size o.settlement o.amount o.spot o.price;
      kind_of = kind_of_number;
      refused = λ n. n;
      is_tally_full = λ n. eqb n tally_full;
      Promise = λ t o r u. TalliesBare t o.product o.size o.settlement o.amount o.spot o.price r u;
    }

-- From six zeros asked is the number of counted checks, and each count the number of the answers of its kind; a sound tally stays sound;
-- until it is full each answer is the bare check's; 1 before 15.
abbrev pub BareThroughOneTally : Type 0
BareThroughOneTally = ThroughOneTally bare_checks

-- one check; each may be on another book
pub record BookOrder : Type 0 where
  pub image : Image
  pub product : ℕ
  pub size : ℕ
  pub month : ℕ
  pub price : ℕ

-- no check on a book answers 15
abbrev pub image_checks : TalliedCall
image_checks =
    record {
      Ask = BookOrder;
      Answer = ℕ;
      answer_to = λ o. image_check o.image o.product o.size o.month o.price;
      kind_of = kind_of_number;
      refused = λ n. n;
      is_tally_full = λ n. eqb n tally_full;
      Promise = λ t o r u. TalliesImage t o.image o.product o.size o.month o.price r u;
    }

abbrev pub ImagesThroughOneTally : Type 0
ImagesThroughOneTally = ThroughOneTally image_checks
