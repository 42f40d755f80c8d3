-- What refuses a founding, by its tests in their order; and what is founded where nothing does.
use Rattle.std.proofs.Common.{◌≡◌, true, false, Some, None}
use Rattle.record.specs.Refusals.{unknown_edition}
use Rattle.grain.specs.Refusals.{unfit_amount}
use Rattle.record.specs.Edition.{is_edition}
use Rattle.record.specs.Founding.{Start, are_fit, founding_refusal}

module _ (s : Start) where
  pub no_edition_lem : is_edition s.edition ≡ false → founding_refusal s ≡ Some unknown_edition
  unfolding founding_refusal
  no_edition_lem e = rw e

  pub unfit : is_edition s.edition ≡ true → are_fit s.limits ≡ false → founding_refusal s ≡ Some unfit_amount
  unfolding founding_refusal
  unfit e f = rw (e, f)

  pub fit : is_edition s.edition ≡ true → are_fit s.limits ≡ true → founding_refusal s ≡ None
  unfolding founding_refusal
  fit e f = rw (e, f)
