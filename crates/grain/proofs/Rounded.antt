-- Step rounding, proved: from the bounds of `Rounding`, as two multiples of a step are at least a step apart.
use Prim.Native.Nat.{ℕ, ◌+◌, ◌-◌, ◌*◌, ◌%◌, ◌<◌, ◌≤◌}
use mathlib.Core.Path.{◌≡◌, refl}
use mathlib.Core.Bool.{Bool, true, false}
use native.Mathlib.Nat.{dvd-sub, le_of_dvd, dvd_of_mod-eq-zero}
use native.Mathlib.Omega.{arith}
use lib.Dec.{ltb}
use borrow.Author.Tests.{ltb-true, ltb-false}
use Rattle.grain.specs.Lists.{distance}
use Rattle.grain.specs.Amounts.{expanded_by, season_by}
use Rattle.grain.specs.Rounding.{LeastMultiple, NearestMultiple, Expands, Renews, StepRounding}
use Rattle.grain.proofs.Rounding.{RoundedUp, rounded_up, NearestHalfUp, nearest_half_up}

step_apart : (step a b : ℕ) → a % step ≡ 0 → b % step ≡ 0 → b < a → b + step ≤ a
step_apart step a b ea eb l =
    let pos : 0 < a - b = omega arith in
    let far : step ≤ a - b = le_of_dvd pos (dvd-sub _ (dvd_of_mod-eq-zero _ ea) (dvd_of_mod-eq-zero _ eb)) in
    omega arith

least : (step i r : ℕ) → RoundedUp step i r → LeastMultiple step i r
least step i r up =
    record {
      multiple = up.multiple;
      enough = up.enough;
      least = λ m e h. go m e h (ltb m r) refl;
    }
  where
    go : (m : ℕ) → m % step ≡ 0 → 3 * i ≤ 2 * m → (b : Bool) → ltb m r ≡ b → r ≤ m
    go m e h true t =
        let apart = step_apart step r m up.multiple e (ltb-true _ _ t) in
        omega (arith, up.least)
    go m e h false t = ltb-false m r t

-- a multiple above is farther, and one below is as far at least
nearest : (step s r : ℕ) → NearestHalfUp step s r → NearestMultiple step s r
nearest step s r half =
    record {
      multiple = half.multiple;
      nearest = λ m e. near m e (ltb r m) (ltb m r) refl refl;
      greater = λ m e same. not-above m e same (ltb r m) refl;
    }
  where
    near : (m : ℕ) → m % step ≡ 0 → (a b : Bool) → ltb r m ≡ a → ltb m r ≡ b
        → distance (4500 * r) (7 * s) ≤ distance (4500 * m) (7 * s)
    near m e true b t u =
        let apart = step_apart step m r e half.multiple (ltb-true _ _ t) in
        omega (arith, half.not_above, half.not_below)
    near m e false true t u =
        let apart = step_apart step r m half.multiple e (ltb-true _ _ u) in
        omega (arith, half.not_above, half.not_below)
    near m e false false t u = omega (arith, ltb-false r m t, ltb-false m r u)

    not-above : (m : ℕ) → m % step ≡ 0 → distance (4500 * r) (7 * s) ≡ distance (4500 * m) (7 * s) → (a : Bool) → ltb r m ≡ a → m ≤ r
    not-above m e same true t =
        let apart = step_apart step m r e half.multiple (ltb-true _ _ t) in
        omega (arith, half.not_above, half.not_below)
    not-above m e same false t = ltb-false r m t

expands : (step i : ℕ) → 0 < step → Expands step i (expanded_by step i)
unfolding expanded_by
expands step i h =
    record { rounded = _; is_least = least step i _ (rounded_up step i h); or_most = refl }

renews : (step floor s : ℕ) → 0 < step → Renews step floor s (season_by step floor s)
unfolding season_by
renews step floor s h =
    record { rounded = _; is_nearest = nearest step s _ (nearest_half_up step s h); or_floor = refl }

pub step_rounding : StepRounding
step_rounding = record { expanded = expands; season = renews }
