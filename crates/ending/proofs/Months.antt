-- The months that are collected, from the contract month of the date.
use Prim.Native.Nat.{ℕ, ◌+◌, ◌*◌, ◌≤◌}
use mathlib.Core.Path.{◌≡◌}
use mathlib.Core.Bool.{Bool, true, false, ◌||◌, cond}
use native.Mathlib.Omega.{arith}
use lib.Dec.{eqb}
use Rattle.grain.specs.Dates.{contract_month}
use Rattle.record.specs.declared.Day.{Day}
use Rattle.record.specs.State.{month_of}
use Rattle.record.specs.Opening.{is_true_day}
use Rattle.record.specs.Window.{new_crop_month}
use Rattle.record.proofs.TrueDays.{valid}

-- what the collected months are counted from: the date's contract month, whose year is one of the calendar's
pub record Falls (d : Day) (month : ℕ) : Type 0 where
  pub falls : month + 1 ≡ d.year * 12 + d.month
  pub first : 2000 ≤ d.year
  pub last : d.year ≤ 2098
  pub last_month : d.month ≤ 12

pub dated : (d : Day) (month : ℕ) → is_true_day d ≡ true → month ≡ month_of d → Falls d month
unfolding contract_month
dated d month t e =
    let v = valid d t in
    let some-month = v.some_month in
    record { falls = omega arith; first = v.first; last = v.last; last_month = v.last_month }

pub new_crop_small : (p : ℕ) → new_crop_month p ≤ 12
new_crop_small p = go (eqb p 1 || eqb p 7)
  where
    go : (b : Bool) → cond b 11 12 ≤ 12
    go true = omega arith
    go false = omega arith
