-- The ends of a span are multiples of the size's tick, as settlements, limits and 1,000,000 are; the rest is sums.
use Prim.Native.Nat.{ℕ, ◌+◌, ◌-◌, ◌%◌, ◌<◌, ◌≤◌, min, max}
use mathlib.Core.Path.{◌≡◌, refl}
use mathlib.Core.Bool.{Bool, true, false, ◌&&◌, ◌||◌, cond}
use native.Mathlib.Nat.{dvd_trans, dvd-add, dvd-sub, le_of_dvd, mod-eq-zero_of_dvd, dvd_of_mod-eq-zero, mod_self}
use native.Mathlib.Omega.{arith}
use lib.Dec.{leb, eqb}
use lib.ListN.{get_or}
use borrow.Author.Tests.{leb-true, leb-false, eqb-true, eqb-false, ne_eqb, not-true}
use Rattle.grain.specs.Products.{steps, standard_ticks, mini_ticks, step_of, tick_of}
use Rattle.grain.specs.Check.{span_by, verdict, is_within}
use Rattle.grain.specs.Spans.{EverySpan}
use Rattle.grain.proofs.Tests.{&&-left, &&-right}
use Rattle.grain.proofs.Below.{below}
use Rattle.grain.proofs.PriceFacts.{Priced, priced, on_tick}
use Rattle.grain.proofs.Fits.{fit_facts, one_of}
use Rattle.grain.proofs.Judged.{lies_within, is_below, is_above}

-- a tick of a product divides the standard tick, the step and 1,000,000
abbrev divides : ℕ → ℕ → Bool
divides p t = eqb t 0 || (eqb (get_or standard_ticks p 0 % t) 0 && eqb (step_of p % t) 0 && eqb (1000000 % t) 0 && leb t 2)

each_divides : (p size : ℕ) → p < 8 → divides p (tick_of p size) ≡ true
unfolding tick_of standard_ticks mini_ticks steps
each_divides p size l =
    go (eqb size 0) (eqb size 1)
    (below 8 (λ p. divides p (get_or standard_ticks p 0)) refl p l)
    (below 8 (λ p. divides p (get_or mini_ticks p 0)) refl p l)
  where
    go : (a b : Bool) → divides p (get_or standard_ticks p 0) ≡ true → divides p (get_or mini_ticks p 0) ≡ true
        → divides p (cond a (get_or standard_ticks p 0) (cond b (get_or mini_ticks p 0) 0)) ≡ true
    go true b s m = s
    go false true s m = m
    go false false s m = refl

record Divides (p t : ℕ) : Type 0 where
  standard : get_or standard_ticks p 0 % t ≡ 0
  step : step_of p % t ≡ 0
  most : 1000000 % t ≡ 0
  small : t ≤ 2

tick_divides : (p t : ℕ) → (t ≡ 0 → ⊥) → divides p t ≡ true → Divides p t
tick_divides p t n e =
    let a = eqb (get_or standard_ticks p 0 % t) 0 in
    let b = eqb (step_of p % t) 0 in
    let c = eqb (1000000 % t) 0 in
    let d = leb t 2 in
    let f : a && b && c && d ≡ true = rw (ne_eqb t 0 n) at e in
    let f₃ = &&-left (a && b && c) d f in
    let f₂ = &&-left (a && b) c f₃ in
    record {
      standard = eqb-true _ _ (&&-left a b f₂);
      step = eqb-true _ _ (&&-right a b f₂);
      most = eqb-true _ _ (&&-right (a && b) c f₃);
      small = leb-true _ _ (&&-right (a && b && c) d f);
    }

multiple_trans : (t a x : ℕ) → a % t ≡ 0 → x % a ≡ 0 → x % t ≡ 0
multiple_trans t a x e f = mod-eq-zero_of_dvd t (dvd_trans t (dvd_of_mod-eq-zero t e) (dvd_of_mod-eq-zero a f))

module _ (t settlement limit : ℕ) (n : t ≡ 0 → ⊥) (small : t ≤ 2) (most : 1000000 % t ≡ 0) (s : Priced t settlement)
    (multiple : limit % t ≡ 0) where
  lowest_price : Priced t (max t (settlement - limit))
  lowest_price =
      let down : (settlement - limit) % t ≡ 0 =
      mod-eq-zero_of_dvd t (dvd-sub t (dvd_of_mod-eq-zero t s.multiple) (dvd_of_mod-eq-zero t multiple)) in
      record {
        some = omega arith;
        most = omega (arith, s.most);
        multiple = one_of t t (settlement - limit) _ (mod_self t) down (omega arith);
      }

  highest_price : Priced t (min 1000000 (settlement + limit))
  highest_price =
      let up : (settlement + limit) % t ≡ 0 =
      mod-eq-zero_of_dvd t (dvd-add t (dvd_of_mod-eq-zero t s.multiple) (dvd_of_mod-eq-zero t multiple)) in
      record {
        some = omega (arith, s.some);
        most = omega arith;
        multiple = one_of t 1000000 (settlement + limit) _ most up (omega arith);
      }

  at_least : (x : ℕ) → Priced t x → t ≤ x
  at_least x f = le_of_dvd f.some (dvd_of_mod-eq-zero t f.multiple)

  within-span : (x : ℕ) → Priced t x
      → is_within (verdict false t settlement limit x) ≡ (leb (max t (settlement - limit)) x && leb x (min 1000000 (settlement + limit)))
  within-span x f = go (leb (max t (settlement - limit)) x) (leb x (min 1000000 (settlement + limit))) refl refl
    where
      go : (a b : Bool) → leb (max t (settlement - limit)) x ≡ a → leb x (min 1000000 (settlement + limit)) ≡ b
          → is_within (verdict false t settlement limit x) ≡ (a && b)
      go true true a b =
          let low : max t (settlement - limit) ≤ x = leb-true _ _ a in
          let high : x ≤ min 1000000 (settlement + limit) = leb-true _ _ b in
          rw (lies_within t settlement limit x (omega arith) (omega arith))
      go true false a b =
          let high : min 1000000 (settlement + limit) < x = leb-false _ _ b in
          let over : settlement + limit < x = omega (arith, f.most) in
          rw (is_above t settlement limit x over)
      go false b a e =
          let low : x < max t (settlement - limit) = leb-false _ _ a in
          let under : x + limit < settlement = omega (arith, at_least x f) in
          rw (is_below t settlement limit x under)

pub every_span : EverySpan
unfolding tick_of span_by
every_span p size settlement limit offered settled fit =
    let t = tick_of p size in
    let f = fit_facts 2000000 p limit fit in
    let n : t ≡ 0 → ⊥ = eqb-false t 0 (not-true _ offered) in
    let d = tick_divides p t n (each_divides p size f.product) in
    let q = priced _ settlement settled in
    let s : Priced t settlement =
    record { some = q.some; most = q.most; multiple = multiple_trans t _ settlement d.standard q.multiple } in
    let m : limit % t ≡ 0 = multiple_trans t _ limit d.step f.multiple in
    let low = at_least t settlement limit n d.small d.most s m settlement s in
    record {
      lowest_passes = on_tick t _ n (lowest_price t settlement limit n d.small d.most s m);
      highest_passes = on_tick t _ n (highest_price t settlement limit n d.small d.most s m);
      from_lowest = omega arith;
      to_highest = omega (arith, s.most);
      within = λ price passes. within-span t settlement limit n d.small d.most s m price (priced t price passes);
    }
