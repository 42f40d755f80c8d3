-- Fit amounts: their facts, and that an expanded and a season limit are fit.
use Prim.Native.Nat.{ℕ, ◌%◌, ◌<◌, ◌≤◌}
use mathlib.Core.Path.{◌≡◌, refl}
use mathlib.Core.Bool.{Bool, true, false, ◌&&◌}
use native.Mathlib.Omega.{arith}
use lib.Dec.{leb, eqb}
use borrow.Author.Tests.{ltb-true, leb-true, eqb-true, eqb-false, lt-ltb, le-leb, eq-eqb}
use Rattle.grain.specs.Products.{steps, floors, is_product, step_of, floor_of}
use Rattle.grain.specs.Amounts.{expanded_by, season_by, expanded_of, is_fit, is_fit_amount, is_fit_founding}
use Rattle.grain.proofs.Tests.{&&-left, &&-right, &&-both}
use Rattle.grain.proofs.Below.{below}
use Rattle.grain.proofs.Columns.{step_positive, step_small, floor_small}
use Rattle.grain.proofs.Rounding.{rounded_up, nearest_half_up}

-- what is_fit says of an amount, test by test
pub record Fit (most p a : ℕ) : Type 0 where
  pub product : p < 8
  pub low : floor_of p ≤ a
  pub high : a ≤ most
  pub multiple : a % step_of p ≡ 0

module _ (most p a : ℕ) where
  pub fit_facts : is_fit most p a ≡ true → Fit most p a
  unfolding is_fit
  fit_facts e =
      let b = is_product p in
      let c = leb (floor_of p) a in
      let d = leb a most in
      let e₃ = &&-left (b && c && d) (eqb (a % step_of p) 0) e in
      let e₂ = &&-left (b && c) d e₃ in
      record {
        product = ltb-true _ _ (&&-left b c e₂);
        low = leb-true _ _ (&&-right b c e₂);
        high = leb-true _ _ (&&-right (b && c) d e₃);
        multiple = eqb-true _ _ (&&-right (b && c && d) (eqb (a % step_of p) 0) e);
      }

  pub facts_fit : Fit most p a → is_fit most p a ≡ true
  unfolding is_fit
  facts_fit f =
      let b = is_product p in
      let c = leb (floor_of p) a in
      let d = leb a most in
      &&-both (b && c && d) _
      (&&-both (b && c) d (&&-both b c (lt-ltb _ _ f.product) (le-leb _ _ f.low)) (le-leb _ _ f.high))
      (eq-eqb _ _ f.multiple)

-- the smaller and the larger of two multiples are one of them
pub one_of : (step a b c : ℕ) → a % step ≡ 0 → b % step ≡ 0 → ((c ≡ a → ⊥) → c ≡ b) → c % step ≡ 0
one_of step a b c ea eb other = go (eqb c a) refl
  where
    go : (t : Bool) → eqb c a ≡ t → c % step ≡ 0
    go true e = rw (eqb-true c a e) ea
    go false e = rw (other (eqb-false c a e)) eb

most_multiple : (p : ℕ) → p < 8 → 2000000 % step_of p ≡ 0
unfolding steps
most_multiple p l = eqb-true _ 0 (below 8 (λ p. eqb (2000000 % step_of p) 0) refl p l)

floor_multiple : (p : ℕ) → p < 8 → floor_of p % step_of p ≡ 0
unfolding steps floors
floor_multiple p l = eqb-true _ 0 (below 8 (λ p. eqb (floor_of p % step_of p) 0) refl p l)

pub expanded_fit : (p i : ℕ) → is_fit_amount p i ≡ true → is_fit_amount p (expanded_of p i) ≡ true
unfolding expanded_by
expanded_fit p i e =
    let f = fit_facts 2000000 p i e in
    let r = rounded_up (step_of p) i (step_positive p f.product) in
    let small = floor_small p f.product in
    facts_fit 2000000 p _
    record {
      product = f.product;
      low = omega arith;
      high = omega arith;
      multiple = one_of (step_of p) 2000000 _ _ (most_multiple p f.product) r.multiple (omega arith);
    }

pub season_fit : (p s : ℕ) → p < 8 → s ≤ 45000000 → is_fit_amount p (season_by (step_of p) (floor_of p) s) ≡ true
unfolding season_by
season_fit p s l h =
    let r = nearest_half_up (step_of p) s (step_positive p l) in
    let small = floor_small p l in
    let short = step_small p l in
    facts_fit 2000000 p _
    record {
      product = l;
      low = omega arith;
      high = omega arith;
      multiple = one_of (step_of p) (floor_of p) _ _ (floor_multiple p l) r.multiple (omega arith);
    }

pub founding_fit : (p a : ℕ) → is_fit_founding p a ≡ true → is_fit_amount p a ≡ true
founding_fit p a e =
    let f = fit_facts 1000000 p a e in
    facts_fit 2000000 p a (omega arith)
