-- Rounding to a step, shown once for all steps.
use Prim.Native.Nat.{ℕ, ◌+◌, ◌-◌, ◌*◌, ◌/◌, ◌%◌, ◌<◌, ◌≤◌}
use mathlib.Core.Path.{◌≡◌}
use native.Mathlib.Nat.{mul_assoc, mul-div-le, mul-mod_right, mul-pos, lt-mul-div-succ, mul-add, mul-one, mul_comm, le_trans, le-mul_of_pos_right}
use native.Mathlib.Omega.{arith}

-- r is the largest multiple of the step that is at most x / parts
pub record WholeSteps (step parts x r : ℕ) : Type 0 where
  pub multiple : r % step ≡ 0
  pub not_above : parts * r ≤ x
  pub largest : x < parts * r + parts * step

pub whole_steps : (step parts x : ℕ) → 0 < step → 0 < parts → WholeSteps step parts x (step * (x / (parts * step)))
whole_steps step parts x hs hp =
    let q = x / (parts * step) in
    record {
      multiple = mul-mod_right step q;
      not_above = rw (← (mul_assoc parts step q)) (mul-div-le x (parts * step));
      largest = rw (← (mul_assoc parts step q)) (rw (mul-add, mul-one) at (lt-mul-div-succ x (mul-pos hp hs)));
    }

-- the expanded limit, before it is cut at 2,000,000, is the least multiple of the step that is at least 3/2 of the initial
pub record RoundedUp (step i r : ℕ) : Type 0 where
  pub multiple : r % step ≡ 0
  pub enough : 3 * i ≤ 2 * r
  pub least : 2 * r < 3 * i + 2 * step

pub rounded_up : (step i : ℕ) → 0 < step → RoundedUp step i (step * ((3 * i + (2 * step - 1)) / (2 * step)))
rounded_up step i hs =
    let w = whole_steps step 2 (3 * i + (2 * step - 1)) hs (omega arith) in
    record { multiple = w.multiple; enough = omega arith; least = omega arith }

-- the season limit, before it is raised to the floor, is the multiple of the step nearest to 7/4,500 of the sum; of two, the larger
pub record NearestHalfUp (step s r : ℕ) : Type 0 where
  pub multiple : r % step ≡ 0
  pub not_above : 4500 * r ≤ 7 * s + 2250 * step
  pub not_below : 7 * s < 4500 * r + 2250 * step

pub nearest_half_up : (step s : ℕ) → 0 < step → NearestHalfUp step s (step * ((7 * s + 2250 * step) / (4500 * step)))
nearest_half_up step s hs =
    let w = whole_steps step 4500 (7 * s + 2250 * step) hs (omega arith) in
    record { multiple = w.multiple; not_above = w.not_above; not_below = omega arith }

pub whole_steps_small : (step parts x : ℕ) → 0 < step → 0 < parts → step * (x / (parts * step)) ≤ x
whole_steps_small step parts x hs hp =
    let r = step * (x / (parts * step)) in
    le_trans (rw (mul_comm r parts) at (le-mul_of_pos_right r hp)) (whole_steps step parts x hs hp).not_above
