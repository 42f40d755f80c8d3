-- A price on a tick of 1 or 2, by one sum.
use Prim.Native.Nat.{ℕ, ◌+◌, ◌%◌, ◌≤◌}
use mathlib.Core.Path.{◌≡◌, refl}
use mathlib.Core.Bool.{Bool, true, false}
use native.Mathlib.Nat.{mod-one}
use native.Mathlib.Omega.{arith}
use lib.Dec.{leb, eqb}
use borrow.Author.Tests.{lt-leb, le-leb, eqb-true, eqb-false}

two : (x : ℕ) (b : Bool) → eqb (x % 2) 0 ≡ b → leb (x % 2 + 2) 2 ≡ b
two x true e = le-leb (x % 2 + 2) 2 (omega (arith, eqb-true (x % 2) 0 e))
two x false e = lt-leb (x % 2 + 2) 2 (omega (arith, eqb-false (x % 2) 0 e))

pub on_small_tick : (tick x : ℕ) → (tick ≡ 0 → ⊥) → tick ≤ 2 → leb (x % 2 + tick) 2 ≡ eqb (x % tick) 0
on_small_tick tick x n l = go (eqb tick 1) refl
  where
    go : (b : Bool) → eqb tick 1 ≡ b → leb (x % 2 + tick) 2 ≡ eqb (x % tick) 0
    go true e =
        let one : tick ≡ 1 = eqb-true tick 1 e in
        rw (one, mod-one) (le-leb (x % 2 + 1) 2 (omega arith))
    go false e =
        let is-two : tick ≡ 2 = omega (arith, eqb-false tick 1 e) in
        rw is-two (two x (eqb (x % 2) 0) refl)
