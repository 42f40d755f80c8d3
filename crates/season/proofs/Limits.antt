-- The line of a file that passes the tests of its shape, its product and its dates is what the margin group's call says, behind the product.
use Rattle.std.proofs.Common.{◌≡◌, refl, ℕ, Bool, true, false, not, cond, List, ◌∷◌}
use borrow.Author.Tests.{eq-eqb}
use Rattle.grain.specs.Lists.{every, is_ascending}
use Rattle.grain.specs.Products.{is_product}
use Rattle.grain.specs.Prices.{is_settlement}
use Rattle.grain.specs.Margin.{Outcome, refused, gives, season_limits}
use Rattle.season.specs.SeasonFile.{is_misshapen, is_date_word, product_in, dates_in, settlements_in, season_line}
use Rattle.season.proofs.Words.{length-settlements_in}

-- the product stands before its limits
abbrev pub with_product : ℕ → Outcome → Outcome
with_product product (gives values) = gives (product ∷ values)
with_product product (refused n) = refused n

by_test : (b : Bool) (p : ℕ) (values : List ℕ)
    → with_product p (cond (not b) (refused 8) (gives values)) ≡ cond (not b) (refused 8) (gives (p ∷ values))
by_test true p values = refl
by_test false p values = refl

module _ (file : List ℕ) where
  pub sound_line : is_misshapen file ≡ false → is_product (product_in file) ≡ true → every is_date_word (dates_in file) ≡ true
      → is_ascending (dates_in file) ≡ true
      → with_product (product_in file) (season_limits (product_in file) (settlements_in file)) ≡ season_line file
  unfolding season_line season_limits
  sound_line whole offered dated rising =
      simp (whole, offered, dated, rising, eq-eqb _ 45 (length-settlements_in file))
      (by_test (every (is_settlement (product_in file)) (settlements_in file)) (product_in file) _)
