-- No bare check and no check on a book answers 15, so that every answer of either is counted.
use Prim.Native.Nat.{ℕ}
use mathlib.Core.Path.{◌≡◌, refl, ◌∙◌}
use mathlib.Core.Bool.{Bool, true, false}
use native.Mathlib.Omega.{arith}
use lib.Dec.{eqb}
use Rattle.std.specs.Prelude.{not, ◌&&◌, cond, Ok, Err}
use Rattle.grain.specs.Products.{is_offered}
use Rattle.grain.specs.Prices.{is_price, is_settlement}
use Rattle.grain.specs.Amounts.{is_fit_amount}
use Rattle.grain.specs.Bare.{bare_answer, bare_check, checked_number}
use Rattle.grain.specs.declared.check.Verdict.{Verdict}
use Rattle.grain.specs.declared.refusals.Refusal.TheVariants.{NoSuchProduct, BadPrice, UnfitAmount}
use Rattle.grain.specs.declared.check.Verdict.TheVariants.{Free, Within, Below, Above}
use Rattle.tally.specs.Tally.{tally_full}
use Rattle.checking.specs.Checks.{book_answer}
use Rattle.tallying.proofs.BookAnswers.{book-counted}
use Rattle.gateway.specs.declared.image.Image.{Image}
use Rattle.gateway.specs.Calls.{image_check}
use Rattle.gateway.proofs.Numbers.{number_of}

pub bare_not_full : (product size settlement amount spot price : ℕ) → eqb (bare_check product size settlement amount spot price) tally_full ≡ false
unfolding bare_answer
bare_not_full product size settlement amount spot price =
    go (not (is_offered product size)) (not (is_settlement product settlement && is_price product size price)) (not (is_fit_amount product amount)) _
  where
    go : (a b c : Bool) (v : Verdict)
        → eqb (checked_number (cond a (Err NoSuchProduct) (cond b (Err BadPrice) (cond c (Err UnfitAmount) (Ok v))))) tally_full ≡ false
    go true b c v = refl
    go false true c v = refl
    go false false true v = refl
    go false false false Free = refl
    go false false false (Within s) = refl
    go false false false (Below s) = refl
    go false false false (Above s) = refl

pub image_not_full : (i : Image) (p size month price : ℕ) → eqb (image_check i p size month price) tally_full ≡ false
image_not_full i p size month price =
    number_of tally_full (omega arith) (omega arith) (book_answer i.book p size month price) ∙ book-counted i.book p size month price
