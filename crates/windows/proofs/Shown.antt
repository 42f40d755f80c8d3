-- What windows show of a product: the settlements within its size, or 46 where the size is above 45.
use Rattle.std.proofs.Common.{◌≡◌, refl, sym, ap, ℕ, ◌+◌, ◌-◌, ◌*◌, ◌<◌, ◌≤◌, min, Bool, true, false, [], length, take, drop, arith, leb, eqb, length-drop}
use native.Mathlib.Nat.{add-sub_cancel_left}
use lib.Seq.{length-take-le, take-take, take_all}
use lib.ListN.{get_or-eq_default, length-take}
use borrow.Author.Tests.{leb-true, leb-false, le-leb, lt-leb, ne_eqb}
use Rattle.windows.specs.declared.Windows.{Windows}
use Rattle.windows.specs.Windows.{size_in, places_of, kept_of, shown}

module _ (ws : Windows) (p : ℕ) where
  pub shown_fits : size_in ws p ≤ 45 → shown ws p ≡ kept_of ws p
  unfolding shown
  shown_fits l = rw (le-leb (size_in ws p) 45 l)

  pub too_long : 45 < size_in ws p → length (shown ws p) ≡ 46
  unfolding shown
  too_long l = rw (lt-leb (size_in ws p) 45 l)

  -- whatever the array has
  pub shown_short : size_in ws p ≤ 45 → length (shown ws p) ≤ 45
  unfolding kept_of
  shown_short l = rw (shown_fits l, length-take (size_in ws p) (places_of ws p)) (omega arith)

  module _ (many : length ws.sizes ≡ 8) where
    -- there is no such product
    pub no_size : 8 ≤ p → size_in ws p ≡ 0
    no_size l = get_or-eq_default ws.sizes 0 (omega arith)

    pub none_kept : 8 ≤ p → kept_of ws p ≡ []
    unfolding kept_of
    none_kept l = rw (no_size l)

  module _ (many : length ws.sizes ≡ 8) (long : length ws.settlements ≡ 360) where
    pub places_long : p < 8 → length (places_of ws p) ≡ 45
    places_long l = length-take-le 45 (drop (45 * p) ws.settlements) (rw (length-drop, long) (omega arith))

    pub kept_length : size_in ws p ≤ 45 → length (kept_of ws p) ≡ size_in ws p
    unfolding kept_of
    kept_length l = go (leb 8 p) refl
      where
        go : (b : Bool) → leb 8 p ≡ b → length (take (size_in ws p) (places_of ws p)) ≡ size_in ws p
        go true e = rw (no_size many (leb-true _ _ e))
        go false e = length-take-le _ _ (rw (places_long (leb-false _ _ e)) l)

    pub shown_length : size_in ws p ≤ 45 → length (shown ws p) ≡ size_in ws p
    shown_length l = rw (shown_fits l) (kept_length l)

    pub full_is : eqb (size_in ws p) 45 ≡ eqb (length (shown ws p)) 45
    full_is = go (leb (size_in ws p) 45) refl
      where
        go : (b : Bool) → leb (size_in ws p) 45 ≡ b → eqb (size_in ws p) 45 ≡ eqb (length (shown ws p)) 45
        go true e = ap (λ (n : ℕ). eqb n 45) (sym (shown_length (leb-true _ _ e)))
        go false e =
            let more : 45 < size_in ws p = leb-false _ _ e in
            rw (too_long more) (ne_eqb (size_in ws p) 45 (omega arith))

    -- the part of the array that the code lends
    pub kept_is : p < 8 → (m : ℕ) → m ≡ min (size_in ws p) 45 → take (45 * p + m - 45 * p) (drop (45 * p) ws.settlements) ≡ kept_of ws p
    unfolding kept_of
    kept_is l m e = rw (add-sub_cancel_left (45 * p) m) (go (leb (size_in ws p) 45) refl)
      where
        go : (b : Bool) → leb (size_in ws p) 45 ≡ b → take m (drop (45 * p) ws.settlements) ≡ take (size_in ws p) (places_of ws p)
        go true t =
            let fits = leb-true _ _ t in
            let is : m ≡ size_in ws p = omega arith in
            rw is (sym (take-take (size_in ws p) 45 (drop (45 * p) ws.settlements) fits))
        go false t =
            let more : 45 < size_in ws p = leb-false _ _ t in
            let is : m ≡ 45 = omega arith in
            rw is (sym (take_all (size_in ws p) (places_of ws p) (rw (places_long l) (omega arith))))
