-- What a true day says of its numbers.
use Prim.Native.Nat.{◌≤◌}
use mathlib.Core.Path.{◌≡◌}
use mathlib.Core.Bool.{true}
use lib.Dec.{leb}
use Rattle.grain.specs.Dates.{is_date, days_remaining}
use Rattle.grain.proofs.Tests.{&&-left}
use Rattle.grain.proofs.ValidDates as dates
use Rattle.record.specs.State.{Day}
use Rattle.record.specs.Opening.{is_true_day}

module _ (d : Day) (t : is_true_day d ≡ true) where
  pub true_date : is_date d.year d.month d.day ≡ true
  unfolding is_true_day
  true_date = &&-left (is_date d.year d.month d.day) (leb d.left (days_remaining d.year d.month d.day)) t

  pub valid : dates.ValidDate d.year d.month d.day
  valid = dates.valid_date d.year d.month d.day true_date

  pub day_small : d.day ≤ 31
  day_small = dates.day_small d.year d.month d.day valid
