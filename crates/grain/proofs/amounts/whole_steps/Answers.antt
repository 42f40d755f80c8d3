use native.Mathlib.Nat.{mul-le-mul, mul-pos, le_of_lt, lt_of_le_of_lt}
use lib.Dec.{lit<}
use Rattle.grain.proofs.Rounding.{whole_steps_small}
use Rattle.grain.proofs.amounts.whole_steps.Goals as goal

pub overflow_mul-result : goal.overflow_mul-result
overflow_mul-result c = record { fits = lt_of_le_of_lt (mul-le-mul c.requires.1 (le_of_lt c.requires.3)) (lit< tt) }

pub nonzero_div-result : goal.nonzero_div-result
nonzero_div-result c = mul-pos c.requires.0 c.requires.2

pub overflow_mul-result-2 : goal.overflow_mul-result-2
overflow_mul-result-2 c =
    let a = c.args in
    let h = whole_steps_small a.step a.parts a.x c.requires.2 c.requires.0 in
    record { fits = lt_of_le_of_lt h c.ranges.x.fits }
