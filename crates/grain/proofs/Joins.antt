-- Or is at least each side, and is odd where a side is; and what a low or says of each price.
use Prim.Native.Nat.{ℕ, suc, ◌+◌, ◌%◌, ◌^◌, ◌<◌, ◌≤◌}
use mathlib.Core.Path.{◌≡◌, refl}
use mathlib.Core.Bool.{Bool, true, false}
use mathlib.Core.List.{List, [], ◌∷◌}
use native.Mathlib.Omega.{arith}
use lib.Dec.{eqb}
use lib.ListN.{length, get_or}
use lib.Bits.{bit_or, or_step, or_add_and, and_le_r, and_le_l}
use borrow.Author.Tests.{le-leb, eq-eqb, eqb-true, eqb-false}
use Rattle.grain.specs.Lists.{◌and◌, every}
use Rattle.grain.specs.Prices.{is_on_tick}
use Rattle.grain.specs.Joined.{IsJoined}

or_under : (a b : ℕ) → a ≤ bit_or a b
or_under a b = omega (arith, or_add_and a b, and_le_r a b)

or_under_r : (a b : ℕ) → b ≤ bit_or a b
or_under_r a b = omega (arith, or_add_and a b, and_le_l a b)

or_odd : (a b : ℕ) → a % 2 ≤ bit_or a b % 2
or_odd a b = omega (arith, or_step a b)

or_odd_r : (a b : ℕ) → b % 2 ≤ bit_or a b % 2
or_odd_r a b = omega (arith, or_step a b)

pub joins_now : (tick joined r x : ℕ) → (r + tick) % 2 ^ 32 ≡ x → IsJoined tick (bit_or joined r) x
joins_now tick joined r x e = record { less = r; wraps = e; under = or_under_r joined r; odd = or_odd_r joined r }

pub joins_still : (tick joined r x : ℕ) → IsJoined tick joined x → IsJoined tick (bit_or joined r) x
joins_still tick joined r x l =
    record {
      less = l.less;
      wraps = l.wraps;
      under = omega (arith, l.under, or_under joined r);
      odd = omega (arith, l.odd, or_odd joined r);
    }

on_tick_1 : (x : ℕ) → 1 ≤ x → x ≤ 1000000 → is_on_tick 1 x ≡ true
unfolding is_on_tick
on_tick_1 x l h = rw (le-leb 1 x l, le-leb x 1000000 h, eq-eqb (x % 1) 0 (omega arith))

on_tick_2 : (x : ℕ) → 1 ≤ x → x ≤ 1000000 → x % 2 ≡ 0 → is_on_tick 2 x ≡ true
unfolding is_on_tick
on_tick_2 x l h e = rw (le-leb 1 x l, le-leb x 1000000 h, eq-eqb (x % 2) 0 e)

pub joined_on_tick : (tick joined x : ℕ) → (tick ≡ 0 → ⊥) → tick ≤ 2 → joined ≤ 999998 → joined % 2 + tick ≤ 2 → IsJoined tick joined x
    → is_on_tick tick x ≡ true
joined_on_tick tick joined x n t h even l = go (eqb tick 1) refl
  where
    go : (a : Bool) → eqb tick 1 ≡ a → is_on_tick tick x ≡ true
    go true e =
        let one : tick ≡ 1 = eqb-true tick 1 e in
        rw one (on_tick_1 x (omega (arith, l.wraps, l.under)) (omega (arith, l.wraps, l.under)))
    go false e =
        let two : tick ≡ 2 = omega (arith, eqb-false tick 1 e) in
        rw two (on_tick_2 x (omega (arith, l.wraps, l.under)) (omega (arith, l.wraps, l.under)) (omega (arith, l.wraps, l.under, l.odd)))

pub every_at : (f : ℕ → Bool) (l : List ℕ) → ((j : ℕ) → j < length l → f (get_or l j 0) ≡ true) → every f l ≡ true
unfolding every ◌and◌
every_at f [] e = refl
every_at f (a ∷ l) e = rw (e 0 (omega arith)) (every_at f l (λ j h. e (suc j) (omega (arith, h))))
