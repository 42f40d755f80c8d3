-- The nearest month after a month on the sheets of some products: it is after it, and no listed month after it is nearer.
use Prim.Native.Nat.{ℕ, ◌≤◌, ◌<◌, min}
use mathlib.Core.Path.{◌≡◌, refl, sym, subst}
use mathlib.Core.Bool.{Bool, true, false, cond, false≢true}
use mathlib.Core.List.{List, [], ◌∷◌, map}
use mathlib.Core.Logic.{inl, inr, ⊎_elim}
use native.Mathlib.Nat.{le_refl}
use native.Mathlib.Omega.{arith}
use borrow.Author.Tests.{ltb-true, lt-ltb, eqb-true}
use lib.Dec.{ltb, eqb}
use Rattle.std.specs.Prelude.{Option, Some, None, is_some}
use Rattle.std.specs.List.{filter, filter_map, cons_option, fold, reduce}
use Rattle.record.specs.declared.Contract.{Contract}
use Rattle.record.specs.State.{settlement_on}
use Rattle.sheets.specs.Sheets.{entries_of}
use Rattle.sheets.specs.declared.sheet.Sheet.{Sheet}
use Rattle.ending.specs.Search.{next_on, next_among}
use Rattle.ending.proofs.Members.{Member}

-- r is the nearest after a of the months that are Among
abbrev pub Nearest : (ℕ → Type 0) → ℕ → Option ℕ → Type 0
Nearest Among a None = (n : ℕ) → Among n → a < n → ⊥
Nearest Among a (Some m) = (a < m) × ((n : ℕ) → Among n → a < n → m ≤ n)

-- ---- the least of a list
least_first : (x : ℕ) (l : List ℕ) → fold min x l ≤ x
least_first x [] = le_refl x
least_first x (y ∷ l) = let h = least_first (min x y) l in omega arith

least : (x n : ℕ) (l : List ℕ) → Member n l → fold min x l ≤ n
least x n [] d = absurd d
least x n (y ∷ l) d = ⊎_elim (λ same. let h = least_first (min x y) l in omega arith) (λ k. least (min x y) n l k) d

least_above : (a x : ℕ) (l : List ℕ) → a < x → ((n : ℕ) → Member n l → a < n) → a < fold min x l
least_above a x [] h u = h
least_above a x (y ∷ l) h u =
    let k : a < y = u y (inl refl) in
    least_above a (min x y) l (omega arith) (λ n d. u n (inr d))

nearest_of : (a : ℕ) (l : List ℕ) → ((n : ℕ) → Member n l → a < n) → Nearest (λ n. Member n l) a (reduce min l)
nearest_of a [] u = λ n d h. d
nearest_of a (x ∷ l) u = (
  least_above a x l (u x (inl refl)) (λ n d. u n (inr d)),
  λ n d h. ⊎_elim (λ same. let k = least_first x l in omega arith) (λ k. least x n l k) d,
)

-- where each of the Among has one of the list that is no farther
abbrev Has : (ℕ → Type 0) → ℕ → List ℕ → Type 0
Has Among a l = (n : ℕ) → Among n → a < n → (m : ℕ) × Member m l × (a < m) × (m ≤ n)

nearest_by : (Among : ℕ → Type 0) (a : ℕ) (l : List ℕ) (r : Option ℕ) → Nearest (λ n. Member n l) a r → Has Among a l → Nearest Among a r
nearest_by Among a l None near has = λ n d h. let w = has n d h in near w.0 w.1 w.2
nearest_by Among a l (Some m) near has =
    (near.0, λ n d h. let w = has n d h in let k : m ≤ w.0 = near.1 w.0 w.1 w.2 in let j : w.0 ≤ n = w.3 in omega arith)

-- ---- of one sheet
abbrev pub Listed : List Contract → ℕ → Type 0
Listed s n = is_some (settlement_on s n) ≡ true

abbrev months : List Contract → List ℕ
months s = map (λ (c : Contract). c.month) s

listed_month : (s : List Contract) (n : ℕ) → Listed s n → Member n (months s)
listed_month [] n e = absurd (false≢true e)
listed_month (c ∷ s) n e = go (eqb c.month n) refl (listed_month s n)
  where
    go : (x : Bool) → eqb c.month n ≡ x → (Listed s n → Member n (months s)) → Member n (months (c ∷ s))
    go true q later = inl (sym (eqb-true c.month n q))
    go false q later = inr (later (rw q at e))

abbrev later : ℕ → List ℕ → List ℕ
later a l = filter (λ m. ltb a m) l

later_above : (a : ℕ) (l : List ℕ) (n : ℕ) → Member n (later a l) → a < n
later_above a [] n d = absurd d
later_above a (m ∷ l) n d = go (ltb a m) refl (later_above a l n) d
  where
    go : (x : Bool) → ltb a m ≡ x → (Member n (later a l) → a < n) → Member n (cond x (m ∷ later a l) (later a l)) → a < n
    go true e rest k = ⊎_elim (λ same. let h = ltb-true a m e in omega arith) rest k
    go false e rest k = rest k

later_has : (a : ℕ) (l : List ℕ) (n : ℕ) → Member n l → a < n → Member n (later a l)
later_has a [] n d h = absurd d
later_has a (m ∷ l) n d h = ⊎_elim (λ same. let k : a < m = omega arith in rw (lt-ltb a m k) (inl same)) (λ k. go (ltb a m) (later_has a l n k h)) d
  where
    go : (x : Bool) → Member n (later a l) → Member n (cond x (m ∷ later a l) (later a l))
    go true k = inr k
    go false k = k

pub nearest_on : (a : ℕ) (s : List Contract) → Nearest (Listed s) a (next_on a s)
unfolding next_on
nearest_on a s =
    nearest_by (Listed s) a (later a (months s)) (reduce min (later a (months s))) (nearest_of a (later a (months s)) (later_above a (months s)))
    (λ n d h. (n, later_has a (months s) n (listed_month s n d) h, h, le_refl n))

-- ---- of some sheets
module _ (a : ℕ) where
  abbrev nexts : List Sheet → List ℕ
  nexts group = filter_map (λ (q : Sheet). next_on a (entries_of q)) group

  nexts_above : (group : List Sheet) (n : ℕ) → Member n (nexts group) → a < n
  nexts_above [] n d = absurd d
  nexts_above (q ∷ group) n d = go (next_on a (entries_of q)) (nearest_on a (entries_of q)) (nexts_above group n) d
    where
      go : (r : Option ℕ) → Nearest (Listed (entries_of q)) a r → (Member n (nexts group) → a < n)
          → Member n (cons_option r (nexts group)) → a < n
      go None near rest k = rest k
      go (Some m) near rest k = ⊎_elim (λ same. let h : a < m = near.0 in omega arith) rest k

  nexts_have : (group : List Sheet) (q : Sheet) → Member q group → Has (Listed (entries_of q)) a (nexts group)
  nexts_have [] q d = absurd d
  nexts_have (w ∷ group) q d =
      ⊎_elim (λ (same : q ≡ w). subst (λ (x : Sheet). Has (Listed (entries_of x)) a (nexts (w ∷ group))) (sym same) (λ n e h. first (next_on a (entries_of w)) (nearest_on a (entries_of w)) n e h))
      (λ k n e h. after (next_on a (entries_of w)) n (nexts_have group q k n e h)) d
    where
      first : (r : Option ℕ) → Nearest (Listed (entries_of w)) a r → (n : ℕ) → Listed (entries_of w) n → a < n
          → (m : ℕ) × Member m (cons_option r (nexts group)) × (a < m) × (m ≤ n)
      first None near n e h = absurd (near n e h)
      first (Some m) near n e h = (m, inl refl, near.0, near.1 n e h)

      after : (r : Option ℕ) (n : ℕ) → (m : ℕ) × Member m (nexts group) × (a < m) × (m ≤ n)
          → (m : ℕ) × Member m (cons_option r (nexts group)) × (a < m) × (m ≤ n)
      after None n h = h
      after (Some m) n h = (h.0, inr h.1, h.2, h.3)

  pub nearest_among : (group : List Sheet) (Among : ℕ → Type 0)
      → ((n : ℕ) → Among n → (q : Sheet) × Member q group × Listed (entries_of q) n)
      → Nearest Among a (next_among a group)
  unfolding next_among
  nearest_among group Among on =
      nearest_by Among a (nexts group) (reduce min (nexts group)) (nearest_of a (nexts group) (nexts_above group))
      (λ n d h. let w = on n d in nexts_have group w.0 w.1 n w.2 h)
