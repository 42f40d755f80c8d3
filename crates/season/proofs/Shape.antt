-- A file is misshapen unless it is 368 bytes long and its count is 45.
use Rattle.std.proofs.Common.{◌≡◌, ◌*◌, ◌+◌, refl, arith, ℕ, Bool, true, false, not, List, length}
use lib.Dec.{ltb, eqb}
use borrow.Author.Tests.{eqb-true, not-false}
use Rattle.grain.proofs.Tests.{neither}
use Rattle.season.specs.SeasonFile.{count_in, is_misshapen}

module _ (file : List ℕ) where
  pub whole : length file ≡ 368 → count_in file ≡ 45 → is_misshapen file ≡ false
  unfolding is_misshapen
  whole long count = rw (long, count)

  shape_of : is_misshapen file ≡ false → (length file ≡ 368) × (count_in file ≡ 45)
  unfolding is_misshapen
  shape_of e =
      let tests = neither _ (not (eqb (count_in file) 45)) e in
      let size : length file ≡ 8 + 8 * count_in file = eqb-true _ _ (not-false _ (neither (ltb (length file) 8) _ tests.0).1) in
      let count : count_in file ≡ 45 = eqb-true _ _ (not-false _ tests.1) in
      (omega arith, count)

  pub misshapen_unless : ((length file ≡ 368) × (count_in file ≡ 45) → ⊥) → is_misshapen file ≡ true
  misshapen_unless differs = go (is_misshapen file) refl
    where
      go : (b : Bool) → is_misshapen file ≡ b → is_misshapen file ≡ true
      go true e = e
      go false e = absurd (differs (shape_of e))
