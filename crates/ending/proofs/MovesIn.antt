-- The moves of one month among a product's moves: at most one, which the two sheets tell.
use Prim.Native.Nat.{ℕ, zero, suc, pred, ◌+◌, ◌<◌}
use mathlib.Core.Path.{◌≡◌, refl, sym, subst, ◌∙◌, ap}
use mathlib.Core.Bool.{Bool, true, false, not, ◌&&◌, ◌||◌, false≢true}
use mathlib.Core.List.{List, [], ◌∷◌, ◌++◌}
use Rattle.std.specs.Prelude.{Option, Some, None}
use mathlib.Core.Logic.{⊎_elim}
use native.Mathlib.Omega.{arith}
use borrow.Author.Tests.{lt-ltb, le-ltb, eq-eqb, ne_eqb, ltb-true, ltb-false, eqb-true, eqb-false}
use lib.Dec.{ltb, eqb}
use Rattle.std.specs.List.{list_any}
use Rattle.grain.specs.Lists.{is_ascending}
use Rattle.grain.specs.Products.{first_of}
use Rattle.grain.proofs.Tests.{&&-left, &&-right}
use Rattle.record.specs.declared.Contract.{Contract}
use Rattle.record.specs.Choices.{keep}
use Rattle.record.specs.State.{Product, sheet_or, settlement_on}
use Rattle.record.specs.Move.{Move, move_from, moves_among, product_moves}
use Rattle.sheets.specs.Sheets.{months_of}
use Rattle.ending.specs.Search.{count_earlier, change_meets, meets_on}
use Rattle.ending.proofs.Earlier.{count_spot, count_late, count_early}
use Rattle.ending.proofs.Members.{Member, member_either}

-- a move of month m meets g
abbrev pub has_move : (Move → Bool) → ℕ → List Move → Bool
has_move g m ms = list_any (λ v. eqb v.month m && g v) ms

-- every contract is after month m
abbrev Above : ℕ → List Contract → Type 0
Above m [] = Unit
Above m (c ∷ s) = (m < c.month) × Above m s

above_more : (k m : ℕ) (s : List Contract) → k < m → Above m s → Above k s
above_more k m [] h u = tt
above_more k m (c ∷ s) h u = (omega arith, above_more k m s h u.1)

ascending_above : (c : Contract) (s : List Contract) → is_ascending (months_of (c ∷ s)) ≡ true → Above c.month s
unfolding is_ascending
ascending_above c [] e = tt
ascending_above c (d ∷ s) e =
    let h : c.month < d.month = ltb-true _ _ (&&-left (ltb c.month d.month) (is_ascending (months_of (d ∷ s))) e) in
    (h, above_more c.month d.month s h (ascending_above d s (&&-right (ltb c.month d.month) (is_ascending (months_of (d ∷ s))) e)))

ascending_rest : (c : Contract) (s : List Contract) → is_ascending (months_of (c ∷ s)) ≡ true → is_ascending (months_of s) ≡ true
unfolding is_ascending
ascending_rest c [] e = refl
ascending_rest c (d ∷ s) e = &&-right (ltb c.month d.month) (is_ascending (months_of (d ∷ s))) e

none_above : (m : ℕ) (s : List Contract) → Above m s → settlement_on s m ≡ None
none_above m [] u = refl
none_above m (c ∷ s) u = rw (ne_eqb c.month m (omega arith), none_above m s u.1)

or_false : (b : Bool) → b || false ≡ b
or_false true = refl
or_false false = refl

ltb_pred : (k n : ℕ) → ltb (1 + k) n ≡ ltb k (pred n)
ltb_pred k zero = le-ltb (1 + k) 0 (omega arith) ∙ sym (le-ltb k 0 (omega arith))
ltb_pred k (suc n) = go (ltb k n) refl
  where
    go : (x : Bool) → ltb k n ≡ x → ltb (1 + k) (suc n) ≡ ltb k n
    go true e = lt-ltb (1 + k) (suc n) (omega (arith, ltb-true k n e)) ∙ sym e
    go false e = le-ltb (1 + k) (suc n) (omega (arith, ltb-false k n e)) ∙ sym e

count_above : (spot : ℕ → Bool) (m : ℕ) (s : List Contract) → Above m s → count_earlier spot m s ≡ 0
unfolding count_earlier
count_above spot m [] u = refl
count_above spot m (c ∷ s) u = count_late spot m c s (omega arith) ∙ count_above spot m s u.1

module _ (g : Move → Bool) (spot : ℕ → Bool) (q : Product) (m : ℕ) where
  abbrev non_spot : List Contract → List Contract
  non_spot s = keep (λ c. not (spot c.month)) s

  abbrev last_of : Contract → Option ℕ
  last_of c = settlement_on (sheet_or q.last) c.month

  other_month : (c : Contract) (is_first : Bool) (o : Option ℕ) (l : List Move) → (c.month ≡ m → ⊥)
      → has_move g m (move_from q is_first c o ++ l) ≡ has_move g m l
  other_month c is_first None l h = refl
  other_month c is_first (Some y) l h = rw (ne_eqb c.month m h)

  this_month : (c : Contract) (is_first : Bool) (o : Option ℕ) (l : List Move) → c.month ≡ m → has_move g m l ≡ false
      → has_move g m (move_from q is_first c o ++ l)
      ≡ change_meets g q.number q.initial_limit q.expanded_limit m is_first (Some c.settlement) o
  this_month c is_first None l h e = e
  this_month c is_first (Some y) l h e = rw (h, eq-eqb m m refl, e) (or_false _)

  no_move_above : (n : ℕ) (s : List Contract) → Above m s → has_move g m (moves_among q n (non_spot s)) ≡ false
  no_move_above n [] u = refl
  no_move_above n (c ∷ s) u = go (spot c.month) refl (λ k. no_move_above k s u.1)
    where
      go : (x : Bool) → spot c.month ≡ x → ((k : ℕ) → has_move g m (moves_among q k (non_spot s)) ≡ false)
          → has_move g m (moves_among q n (non_spot (c ∷ s))) ≡ false
      go true e later = rw e (later n)
      go false e later = rw e (other_month c (ltb 0 n) (last_of c) (moves_among q (pred n) (non_spot s)) (omega arith) ∙ later (pred n))

  no_spot_move : spot m ≡ true → (n : ℕ) (s : List Contract) → has_move g m (moves_among q n (non_spot s)) ≡ false
  no_spot_move h n [] = refl
  no_spot_move h n (c ∷ s) = go (spot c.month) refl (λ k. no_spot_move h k s)
    where
      go : (x : Bool) → spot c.month ≡ x → ((k : ℕ) → has_move g m (moves_among q k (non_spot s)) ≡ false)
          → has_move g m (moves_among q n (non_spot (c ∷ s))) ≡ false
      go true e later = rw e (later n)
      go false e later = rw e (other_month c (ltb 0 n) (last_of c) (moves_among q (pred n) (non_spot s)) (λ same. false≢true (sym e ∙ rw same h)) ∙ later (pred n))

  -- the move of a month that is not spot
  module _ (h : spot m ≡ false) where
    abbrev by_the_sheets : ℕ → List Contract → Bool
    by_the_sheets n s =
        change_meets g q.number q.initial_limit q.expanded_limit m (ltb (count_earlier spot m s) n) (settlement_on s m)
        (settlement_on (sheet_or q.last) m)

    move_is : (n : ℕ) (s : List Contract) → is_ascending (months_of s) ≡ true
        → has_move g m (moves_among q n (non_spot s)) ≡ by_the_sheets n s
    move_is n [] a = refl
    move_is n (c ∷ s) a =
        go (spot c.month) refl (eqb c.month m) refl (ltb c.month m) refl (λ k. move_is k s (ascending_rest c s a))
      where
        go : (x : Bool) → spot c.month ≡ x → (y : Bool) → eqb c.month m ≡ y → (z : Bool) → ltb c.month m ≡ z
            → ((k : ℕ) → has_move g m (moves_among q k (non_spot s)) ≡ by_the_sheets k s)
            → has_move g m (moves_among q n (non_spot (c ∷ s))) ≡ by_the_sheets n (c ∷ s)
        go true e true v z w later = absurd (false≢true (sym h ∙ rw (eqb-true c.month m v) at e))
        go true e false v z w later = rw (count_spot spot m c s e, e, v) (later n)
        go false e true v z w later =
            let same = eqb-true c.month m v in
            let above : Above m s = subst (λ (k : ℕ). Above k s) same (ascending_above c s a) in
            let first = count_late spot m c s (omega arith) ∙ count_above spot m s above in
            rw (first, e, v)
            (this_month c (ltb 0 n) (last_of c) (moves_among q (pred n) (non_spot s)) same (no_move_above (pred n) s above)
            ∙ ap (λ (k : ℕ). change_meets g q.number q.initial_limit q.expanded_limit m (ltb 0 n) (Some c.settlement) (settlement_on (sheet_or q.last) k)) same)
        go false e false v true w later =
            let early = ltb-true c.month m w in
            rw (count_early spot m c s e early, e, v, ltb_pred (count_earlier spot m s) n)
            (other_month c (ltb 0 n) (last_of c) (moves_among q (pred n) (non_spot s)) (eqb-false _ _ v) ∙ later (pred n))
        go false e false v false w later =
            let no = eqb-false c.month m v in
            let above = above_more m c.month s (omega (arith, ltb-false c.month m w)) (ascending_above c s a) in
            rw (e, v, none_above m s above)
            (other_month c (ltb 0 n) (last_of c) (moves_among q (pred n) (non_spot s)) no ∙ no_move_above (pred n) s above)

  pub moves_of_month : is_ascending (months_of (sheet_or q.today)) ≡ true
      → has_move g m (product_moves spot q)
      ≡ meets_on g spot q.number q.initial_limit q.expanded_limit (sheet_or q.today) (sheet_or q.last) m
  unfolding product_moves meets_on
  moves_of_month a = go (spot m) refl
    where
      go : (x : Bool) → spot m ≡ x
          → has_move g m (product_moves spot q)
          ≡ meets_on g spot q.number q.initial_limit q.expanded_limit (sheet_or q.today) (sheet_or q.last) m
      go true e = rw e (no_spot_move e (first_of q.number) (sheet_or q.today))
      go false e = rw e (move_is e (first_of q.number) (sheet_or q.today) a)

-- each of a product's moves has its number
among_number : (q : Product) (n : ℕ) (s : List Contract) (v : Move) → Member v (moves_among q n s) → v.product ≡ q.number
among_number q n [] v d = absurd d
among_number q n (c ∷ s) v d =
    member_either (v.product ≡ q.number) v (move_from q (ltb 0 n) c (settlement_on (sheet_or q.last) c.month)) (moves_among q (pred n) s) d
    (go (settlement_on (sheet_or q.last) c.month))
    (among_number q (pred n) s v)
  where
    go : (o : Option ℕ) → Member v (move_from q (ltb 0 n) c o) → v.product ≡ q.number
    go None k = absurd k
    go (Some y) k = ⊎_elim (λ same. ap (λ (w : Move). w.product) same) (λ z. absurd z) k

pub move_number : (spot : ℕ → Bool) (q : Product) (v : Move) → Member v (product_moves spot q) → v.product ≡ q.number
unfolding product_moves
move_number spot q v d = among_number q (first_of q.number) (keep (λ c. not (spot c.month)) (sheet_or q.today)) v d
