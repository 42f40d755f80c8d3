-- Facts of the product table, each computed over the eight products at once.
use Prim.Native.Nat.{ℕ, ◌<◌, ◌≤◌}
use mathlib.Core.Path.{◌≡◌, refl}
use mathlib.Core.List.{List}
use mathlib.Core.Bool.{Bool, true, false, cond}
use native.Mathlib.Nat.{zero-mul}
use lib.Dec.{ltb, leb, eqb}
use lib.ListN.{length, get_or, get_or-eq_default}
use borrow.Author.Tests.{ltb-true, leb-true}
use Rattle.grain.specs.Products.{steps, floors, standard_ticks, mini_ticks, step_of, floor_of, tick_of}
use Rattle.grain.specs.Amounts.{expanded_by, expanded_of}
use Rattle.grain.proofs.Below.{below}

-- a column has nothing past the eight products
pub beyond : (xs : List ℕ) (p : ℕ) → length xs ≡ 8 → 8 ≤ p → get_or xs p 0 ≡ 0
beyond xs p e l = get_or-eq_default xs 0 {n = p} (rw e l)

pub step_positive : (p : ℕ) → p < 8 → 0 < step_of p
unfolding steps
step_positive p l = ltb-true 0 _ (below 8 (λ p. ltb 0 (step_of p)) refl p l)

pub step_small : (p : ℕ) → p < 8 → step_of p ≤ 50
unfolding steps
step_small p l = leb-true _ 50 (below 8 (λ p. leb (step_of p) 50) refl p l)

pub floor_small : (p : ℕ) → p < 8 → floor_of p ≤ 400
unfolding floors
floor_small p l = leb-true _ 400 (below 8 (λ p. leb (floor_of p) 400) refl p l)

-- the tests are of the size alone, and each choice is 0
no_tick : (a b : Bool) (x y : ℕ) → x ≡ 0 → y ≡ 0 → cond a x (cond b y 0) ≡ 0
no_tick true b x y ex ey = ex
no_tick false true x y ex ey = ey
no_tick false false x y ex ey = refl

pub tick_beyond : (p size : ℕ) → 8 ≤ p → tick_of p size ≡ 0
unfolding tick_of standard_ticks mini_ticks
tick_beyond p size l =
    no_tick (eqb size 0) (eqb size 1) _ _ (beyond standard_ticks p refl l) (beyond mini_ticks p refl l)

pub expanded_beyond : (p i : ℕ) → 8 ≤ p → expanded_of p i ≡ 0
unfolding expanded_by steps
expanded_beyond p i l = rw (beyond steps p refl l, zero-mul)
