-- A sheet that refusals 6, 7 and 8 let pass is sound.
use Prim.Native.Nat.{ℕ, ◌≤◌}
use mathlib.Core.Path.{◌≡◌, refl, ap}
use mathlib.Core.Bool.{true, false, not, ◌||◌}
use mathlib.Core.List.{List, [], ◌∷◌, map}
use Rattle.std.specs.Prelude.{Option, Some, None}
use native.Mathlib.Omega.{arith}
use lib.Dec.{ltb, eqb}
use lib.ListN.{length, length-map}
use borrow.Author.Tests.{eqb-true, eqb-false, ltb-false, not-false, le-leb}
use Rattle.grain.specs.Lists.{every}
use Rattle.grain.specs.Prices.{is_settlement}
use Rattle.grain.proofs.Tests.{and_left, and_right, both, neither}
use Rattle.record.specs.State.{Contract, Sheet, sheet_or}
use Rattle.record.specs.Sheet.{contracts, is_misshapen, has_bad_month, has_bad_settlement}
use Rattle.record.specs.Sound.{is_sound_sheet}

-- the settlements of a sound sheet are settlements of its product
pub sheet_settlements : (p : ℕ) (o : Option Sheet) → is_sound_sheet p o ≡ true
    → every (is_settlement p) (map (λ (c : Contract). c.settlement) (sheet_or o)) ≡ true
unfolding is_sound_sheet every
sheet_settlements p None t = refl
sheet_settlements p (Some s) t = and_right _ _ t

-- two arrays of one length are the months and the settlements of their contracts
record Parallel (ms ss : List ℕ) : Type 0 where
  months : map (λ (c : Contract). c.month) (contracts ms ss) ≡ ms
  settlements : map (λ (c : Contract). c.settlement) (contracts ms ss) ≡ ss

parallel : (ms ss : List ℕ) → length ms ≡ length ss → Parallel ms ss
parallel [] [] e = record { months = refl; settlements = refl }
parallel [] (s ∷ ss) e = let z : ⊥ = omega arith in absurd z
parallel (m ∷ ms) [] e = let z : ⊥ = omega arith in absurd z
parallel (m ∷ ms) (s ∷ ss) e =
    let r = parallel ms ss (omega arith) in
    record { months = ap (m ∷◌) r.months; settlements = ap (s ∷◌) r.settlements }

record Shape (ms ss : List ℕ) : Type 0 where
  equal : length ms ≡ length ss
  least : 1 ≤ length ms
  most : length ms ≤ 16

shape : (ms ss : List ℕ) → is_misshapen ms ss ≡ false → Shape ms ss
unfolding is_misshapen
shape ms ss e =
    let n = length ms in
    let long = neither (not (eqb n (length ss)) || eqb n 0) (ltb 16 n) e in
    let empty = neither (not (eqb n (length ss))) (eqb n 0) long.0 in
    record {
      equal = eqb-true _ _ (not-false _ empty.0);
      least = omega (arith, eqb-false n 0 empty.1);
      most = ltb-false 16 _ long.1;
    }

pub sheet_passed : (month p : ℕ) (ms ss : List ℕ) → is_misshapen ms ss ≡ false → has_bad_month month p ms ≡ false
    → has_bad_settlement p ss ≡ false → is_sound_sheet p (Some (contracts ms ss)) ≡ true
unfolding has_bad_month has_bad_settlement is_sound_sheet
sheet_passed month p ms ss e₆ e₇ e₈ =
    let s = shape ms ss e₆ in
    let q = parallel ms ss s.equal in
    let long : length (contracts ms ss) ≡ length ms = simp length-map at (ap length q.months) in
    let months = and_left _ _ (not-false _ e₇) in
    rw (q.months, q.settlements, long)
    (both _ _
    (both _ _ (both _ _ (both _ _ (le-leb _ _ s.least) (le-leb _ _ s.most)) (and_left _ _ months)) (and_right _ _ months))
    (not-false _ e₈))
