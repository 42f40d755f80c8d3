-- What a price on a tick says of its numbers, test by test.
use Prim.Native.Nat.{ℕ, ◌%◌, ◌≤◌}
use mathlib.Core.Path.{◌≡◌}
use mathlib.Core.Bool.{true, not, ◌&&◌}
use lib.Dec.{leb, eqb}
use borrow.Author.Tests.{leb-true, le-leb, eqb-true, eq-eqb, ne_eqb}
use Rattle.grain.specs.Prices.{is_on_tick}
use Rattle.grain.proofs.Tests.{&&-left, &&-right}

pub record Priced (t x : ℕ) : Type 0 where
  pub some : 1 ≤ x
  pub most : x ≤ 1000000
  pub multiple : x % t ≡ 0

pub priced : (t x : ℕ) → is_on_tick t x ≡ true → Priced t x
unfolding is_on_tick
priced t x e =
    let a = not (eqb t 0) in
    let b = leb 1 x in
    let c = leb x 1000000 in
    let d = eqb (x % t) 0 in
    let e₃ = &&-left (a && b && c) d e in
    record {
      some = leb-true _ _ (&&-right a b (&&-left (a && b) c e₃));
      most = leb-true _ _ (&&-right (a && b) c e₃);
      multiple = eqb-true _ _ (&&-right (a && b && c) d e);
    }

pub on_tick : (t x : ℕ) → (t ≡ 0 → ⊥) → Priced t x → is_on_tick t x ≡ true
unfolding is_on_tick
on_tick t x n f =
    rw (ne_eqb t 0 n, le-leb 1 x f.some, le-leb x 1000000 f.most, eq-eqb (x % t) 0 f.multiple)
