-- A contract month that is spot stays so on a date of a later month, and on one of the same month with no more left.
use Prim.Native.Nat.{ℕ, ◌+◌, ◌<◌, ◌≤◌}
use mathlib.Core.Path.{◌≡◌, refl}
use mathlib.Core.Bool.{Bool, true, false, ◌&&◌, ◌||◌}
use native.Mathlib.Omega.{arith}
use lib.Dec.{leb, eqb}
use borrow.Author.Tests.{leb-true, leb-false, eqb-true, le-leb, lt-leb, eq-eqb}
use Rattle.grain.specs.Spot.{is_spot}
use Rattle.grain.specs.declared.spot.TradeDate.{TradeDate}
use Rattle.grain.proofs.Tests.{&&-left, &&-right, &&-both}

module _ (a b : TradeDate) (month : ℕ) (later : a.month ≤ b.month) (fallen : a.month ≡ b.month → b.left ≤ a.left) where
  -- in the month after the date's, which is then the same for both
  still_next : b.month < month → eqb month (a.month + 1) && leb a.left 1 ≡ true → eqb month (b.month + 1) && leb b.left 1 ≡ true
  still_next over e =
      let next : month ≡ a.month + 1 = eqb-true _ _ (&&-left _ _ e) in
      let few : a.left ≤ 1 = leb-true _ _ (&&-right (eqb month (a.month + 1)) _ e) in
      let same : a.month ≡ b.month = omega arith in
      let fewer = fallen same in
      &&-both _ _ (eq-eqb month (b.month + 1) (omega arith)) (le-leb b.left 1 (omega arith))

  pub still_spot : is_spot a month ≡ true → is_spot b month ≡ true
  unfolding is_spot
  still_spot e = go (leb month b.month) refl
    where
      go : (x : Bool) → leb month b.month ≡ x → x || (eqb month (b.month + 1) && leb b.left 1) ≡ true
      go true h = refl
      go false h =
          let over : b.month < month = leb-false _ _ h in
          still_next over (rw (lt-leb month a.month (omega arith)) at e)
