-- What a true day says of its season.
use Prim.Native.Nat.{◌≤◌, ◌+◌, ◌-◌, ◌*◌}
use mathlib.Core.Path.{◌≡◌}
use mathlib.Core.Bool.{true}
use native.Mathlib.Nat.{div-le_self}
use native.Mathlib.Omega.{arith}
use Rattle.grain.specs.Dates.{contract_month, season_number}
use Rattle.record.specs.declared.Day.{Day}
use Rattle.record.specs.Opening.{is_true_day, season_on}
use Rattle.record.proofs.TrueDays.{valid}

-- one season more still is a u32
pub season_small : (d : Day) → is_true_day d ≡ true → season_on d ≤ 30000
unfolding contract_month season_number
season_small d t =
    let last = (valid d t).last in
    let last_month = (valid d t).last_month in
    let less = div-le_self (d.year * 12 + d.month - 1 - 4) 6 in
    omega arith
