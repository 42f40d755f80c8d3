-- One settlement more in a product's places; and the places of the others.
use Rattle.std.proofs.Common.{◌≡◌, refl, sym, ◌∙◌, ap, ℕ, ◌+◌, ◌-◌, ◌*◌, ◌<◌, ◌≤◌, Bool, true, false, List, length, take, drop, set, get_or, arith, Some, leb, ltb}
use mathlib.Core.Bool.{false≢true}
use native.Mathlib.Nat.{add-sub_cancel_left}
use lib.Seq.{length-take-le, take_at, drop_at, get_or-set_same, get_or-set_other}
use borrow.Rule.Slice.PartMut.{mid_of, put_mid, drop_put}
use borrow.Author.Tests.{le-leb, lt-ltb, le-ltb}
use Rattle.std.proofs.lemmas.List.{drop-take, take-append-le}
use Rattle.record.specs.Window.{collect}
use Rattle.windows.specs.declared.Windows.{Windows}
use Rattle.windows.specs.Windows.{size_in, places_of, kept_of, shown, can_collect, OthersKept, Collects, Empties}
use Rattle.windows.proofs.Shown.{shown_fits, no_size, none_kept}

-- ---- in the places of all
module _ (ws : Windows) (p v n : ℕ) (places : List ℕ) (many : length ws.sizes ≡ 8) (long : length ws.settlements ≡ 360) (l : p < 8) (whole : length places ≡ 45) where
  abbrev put : List ℕ
  put = put_mid (45 * p) (45 * p + 45 - 45 * p) ws.settlements places

  abbrev after : Windows
  after = record { sizes = set ws.sizes p n; settlements = put }

  own_places : places_of after p ≡ places
  own_places =
      let front : length (take (45 * p) ws.settlements) ≡ 45 * p = length-take-le (45 * p) ws.settlements (omega arith) in
      ap (take 45) (drop_at (take (45 * p) ws.settlements) _ (45 * p) front) ∙ take_at places _ 45 whole

  before : (q : ℕ) → q < p → places_of after q ≡ places_of ws q
  before q h =
      let left : 45 * q + 45 ≤ length (take (45 * p) ws.settlements) = rw (length-take-le (45 * p) ws.settlements (omega arith)) (omega arith) in
      sym (drop-take (45 * q) 45 put)
      ∙ ap (drop (45 * q)) (take-append-le (45 * q + 45) (take (45 * p) ws.settlements) _ left ∙ lib.Seq.take-take (45 * q + 45) (45 * p) ws.settlements (omega arith))
      ∙ drop-take (45 * q) 45 ws.settlements

  behind_all : (q : ℕ) → p < q → places_of after q ≡ places_of ws q
  behind_all q h =
      let gone : drop (45 * p + 45) put ≡ drop (45 * p + 45) ws.settlements = drop_put (45 * p) (45 * p + 45) ws.settlements places (omega arith) (omega arith) (omega arith) in
      let rest : 45 * p + 45 + (45 * q - (45 * p + 45)) ≡ 45 * q = omega arith in
      let from : (xs : List ℕ) → drop (45 * q) xs ≡ drop (45 * q - (45 * p + 45)) (drop (45 * p + 45) xs) = λ xs. sym (lib.Seq.drop-drop (45 * q - (45 * p + 45)) (45 * p + 45) xs ∙ ap (λ m. drop m xs) rest) in
      ap (take 45) (from put ∙ ap (drop (45 * q - (45 * p + 45))) gone ∙ sym (from ws.settlements))

  other_places : (q : ℕ) → (q ≡ p → ⊥) → places_of after q ≡ places_of ws q
  other_places q ne = go (ltb q p) refl
    where
      go : (b : Bool) → ltb q p ≡ b → places_of after q ≡ places_of ws q
      go true e = before q (borrow.Author.Tests.ltb-true _ _ e)
      go false e = let h = borrow.Author.Tests.ltb-false _ _ e in behind_all q (omega (arith, ne))

  pub others : OthersKept ws p after
  unfolding kept_of
  others q ne =
      let size : size_in after q ≡ size_in ws q = get_or-set_other ws.sizes p q n 0 ne in
      (size, rw (size, other_places q ne))

  -- lent are the places from 45 p up to 45 p + 45
  pub collects : size_in ws p ≤ 45 → n ≤ 45 → take n places ≡ collect (take (size_in ws p) (mid_of (45 * p) (45 * p + 45 - 45 * p) ws.settlements)) (Some v) → Collects ws p v after
  unfolding kept_of
  collects fits room e =
      let can : can_collect ws p ≡ true = rw (lt-ltb p 8 l, le-leb (size_in ws p) 45 fits) in
      let size : size_in after p ≡ n = get_or-set_same ws.sizes p n 0 (omega arith) in
      record {
        own = λ yes.
            shown_fits after p (rw size room)
            ∙ rw (size, own_places) (rw (add-sub_cancel_left (45 * p) 45) at e)
            ∙ ap (λ (xs : List ℕ). collect xs (Some v)) (sym (shown_fits ws p fits));
        others = others;
        unchanged = λ no. absurd (false≢true (sym no ∙ can));
      }

-- ---- where nothing can be collected
pub no_product_lem : (ws : Windows) (p v : ℕ) → 8 ≤ p → Collects ws p v ws
no_product_lem ws p v l =
    let no : can_collect ws p ≡ false = rw (le-ltb p 8 l) in
    record { own = λ yes. absurd (false≢true (sym no ∙ yes)); others = λ q ne. (refl, refl); unchanged = λ no. refl }

pub damaged : (ws : Windows) (p v : ℕ) → leb (size_in ws p) 45 ≡ false → Collects ws p v ws
damaged ws p v e =
    let no : can_collect ws p ≡ false = go (ltb p 8) in
    record { own = λ yes. absurd (false≢true (sym no ∙ yes)); others = λ q ne. (refl, refl); unchanged = λ no. refl }
  where
    go : (b : Bool) → (mathlib.Core.Bool.◌&&◌ b (leb (size_in ws p) 45)) ≡ false
    go true = e
    go false = refl

-- ---- an emptied window
pub empties : (ws : Windows) (p : ℕ) → length ws.sizes ≡ 8 → p < 8 → Empties ws p (record ws { sizes = set ws.sizes p 0 })
unfolding shown kept_of
empties ws p many l =
    let size : get_or (set ws.sizes p 0) p 0 ≡ 0 = get_or-set_same ws.sizes p 0 0 (omega arith) in
    record {
      own = rw size;
      others = λ q ne. let same : get_or (set ws.sizes p 0) q 0 ≡ get_or ws.sizes q 0 = get_or-set_other ws.sizes p q 0 0 ne in (same, rw same);
      unchanged = λ no. absurd (false≢true (sym no ∙ lt-ltb p 8 l));
    }

pub none_empties : (ws : Windows) (p : ℕ) → length ws.sizes ≡ 8 → 8 ≤ p → Empties ws p ws
unfolding shown
none_empties ws p many l = record { own = rw (no_size ws p many l) (none_kept ws p many l); others = λ q ne. (refl, refl); unchanged = λ no. refl }
