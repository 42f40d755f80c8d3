-- Rounding to a step, for all steps together. proofs/Rounded.antt has the proof.
use Rattle.std.specs.Prelude.{ℕ, ◌*◌, ◌%◌, ◌<◌, ◌≤◌, min, max, ◌≡◌}
use Rattle.grain.specs.Lists.{distance}
use Rattle.grain.specs.Amounts.{max_limit, expanded_by, season_by}

-- the least multiple of the step that is at least 3/2 of i
pub record LeastMultiple (step i amount : ℕ) : Type 0 where
  pub multiple : amount % step ≡ 0
  pub enough : 3 * i ≤ 2 * amount
  pub least : (m : ℕ) → m % step ≡ 0 → 3 * i ≤ 2 * m → amount ≤ m

-- the multiple of the step nearest to 7/4,500 of the sum, the greater one at a half
pub record NearestMultiple (step s amount : ℕ) : Type 0 where
  pub multiple : amount % step ≡ 0
  pub nearest : (m : ℕ) → m % step ≡ 0 → distance (4500 * amount) (7 * s) ≤ distance (4500 * m) (7 * s)
  pub greater : (m : ℕ) → m % step ≡ 0 → distance (4500 * amount) (7 * s) ≡ distance (4500 * m) (7 * s) → m ≤ amount

-- the amount so rounded, or 2,000,000 where that is less
pub record Expands (step i e : ℕ) : Type 0 where
  pub rounded : ℕ
  pub is_least : LeastMultiple step i rounded
  pub or_most : e ≡ min max_limit rounded

-- the amount so rounded, or the floor where that is more
pub record Renews (step floor s i : ℕ) : Type 0 where
  pub rounded : ℕ
  pub is_nearest : NearestMultiple step s rounded
  pub or_floor : i ≡ max floor rounded

pub record StepRounding : Type 0 where
  -- E, for every step and every I
  pub expanded : (step i : ℕ) → 0 < step → Expands step i (expanded_by step i)
  -- I of a new season, for every step, every floor and every sum
  pub season : (step floor s : ℕ) → 0 < step → Renews step floor s (season_by step floor s)
