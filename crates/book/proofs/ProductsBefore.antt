-- How many products the groups before a group have: where its own begin.
use Prim.Native.Nat.{ℕ, zero, suc, ◌+◌, ◌-◌, ◌<◌, ◌≤◌}
use mathlib.Core.Path.{◌≡◌, refl, sym, ◌∙◌, ap}
use mathlib.Core.Bool.{Bool, true, false, beq, cond}
use mathlib.Core.List.{List}
use native.Mathlib.Omega.{arith}
use Rattle.std.specs.Prelude.{Option, Some, unwrap_or}
use Rattle.std.specs.List.{find, range_with_len}
use lib.Dec.{leb, ltb}
use lib.ListN.{length}
use lib.Seq.{take_all}
use borrow.Author.Tests.{leb-true, ltb-true, ltb-false, lt-ltb, le-ltb}
use Rattle.grain.specs.Products.{product_count}
use Rattle.grain.proofs.Tests.{beq_same}
use Rattle.grain.proofs.Below.{all_below, below, each}
use Rattle.record.specs.Choices.{concat_map}
use Rattle.record.specs.State.{group_table, group_count, group_of}
use Rattle.record.specs.History.{products_of}
use Rattle.record.proofs.GroupTable.{group_small, no_group_lem}
use Rattle.std.specs.List.{range_with_len}
use Rattle.book.specs.Numbers.{products_before}

pub before_next : (g : ℕ) → g < group_count → products_before g ≤ products_before (g + 1)
unfolding group_table products_before
before_next g l = leb-true _ _ (below group_count (λ (g : ℕ). leb (products_before g) (products_before (g + 1))) refl g l)

pub before_small : (g : ℕ) → g < group_count → products_before (g + 1) ≤ product_count
unfolding group_table products_before
before_small g l = leb-true _ _ (below group_count (λ (g : ℕ). leb (products_before (g + 1)) product_count) refl g l)

-- the products of a group stand together
pub stand_together : (g : ℕ) → g < group_count → range_with_len (products_before g) (products_before (g + 1) - products_before g) ≡ products_of g
unfolding group_table products_before
stand_together = each (λ (g : ℕ). range_with_len (products_before g) (products_before (g + 1) - products_before g) ≡ products_of g) group_count search

-- the products before number p are those of the groups before g
abbrev is_before : ℕ → ℕ → Bool
is_before g p = beq (ltb p (products_before g)) (ltb (group_of p) g)

before_groups : (g : ℕ) → g < group_count → (p : ℕ) → p < product_count → ltb p (products_before g) ≡ ltb (group_of p) g
unfolding group_table products_before
before_groups g h p l =
    beq_same _ _ (below product_count (is_before g) (below group_count (λ (g : ℕ). all_below product_count (is_before g)) refl g h) p l)

-- none is before the first group
pub none_before : (p : ℕ) → products_before 0 ≤ p
unfolding products_before
none_before p = omega arith

-- all of them are before a number that is no group
pub all_before : (g : ℕ) → group_count ≤ g → products_before g ≡ product_count
unfolding group_table products_before
all_before g h = ap (λ (l : List (List ℕ)). length (concat_map (λ (ps : List ℕ). ps) l)) (take_all g group_table h)

in_order : (g p : ℕ) → p < product_count → ltb p (products_before g) ≡ ltb (group_of p) g
in_order g p l = go (ltb g group_count) refl
  where
    go : (b : Bool) → ltb g group_count ≡ b → ltb p (products_before g) ≡ ltb (group_of p) g
    go true e = before_groups g (ltb-true _ _ e) p l
    go false e =
        let past : group_count ≤ g = ltb-false _ _ e in
        let small = group_small p l in
        rw (all_before g past, lt-ltb p product_count l, lt-ltb (group_of p) g (omega arith))

pub before_most : (g : ℕ) → products_before g ≤ product_count
before_most g = go (ltb g group_count) refl
  where
    go : (b : Bool) → ltb g group_count ≡ b → products_before g ≤ product_count
    go true e = let l : g < group_count = ltb-true _ _ e in omega (arith, before_next g l, before_small g l)
    go false e = let past = all_before g (ltb-false _ _ e) in omega arith

-- a number from the start of g on and before that of the next group is a product of g
pub between : (g p : ℕ) → products_before g ≤ p → p < products_before (g + 1) → group_of p ≡ g
between g p from to =
    let l : p < product_count = omega (arith, before_most (g + 1)) in
    let low : g ≤ group_of p = ltb-false _ _ (sym (in_order g p l) ∙ le-ltb p (products_before g) from) in
    let high : group_of p < g + 1 = ltb-true _ _ (sym (in_order (g + 1) p l) ∙ lt-ltb p (products_before (g + 1)) to) in
    omega arith

-- one from the end of the last group on is no product
pub past_all : (g p : ℕ) → group_count ≤ g → products_before g ≤ p → group_of p ≡ group_count
past_all g p h l = no_group_lem p (let all = all_before g h in omega arith)

-- the first of n groups from k on that ends after p
group_from : (p k n : ℕ) → k + n ≡ group_count → products_before k ≤ p
    → unwrap_or (find (λ (g : ℕ). ltb p (products_before (g + 1))) (range_with_len k n)) group_count ≡ group_of p
group_from p k zero e from = sym (past_all k p (omega arith) from)
group_from p k (suc n) e from = go (ltb p (products_before (k + 1))) refl (λ l. group_from p (k + 1) n (omega arith) l)
  where
    rest : Option ℕ
    rest = find (λ (g : ℕ). ltb p (products_before (g + 1))) (range_with_len (k + 1) n)

    go : (b : Bool) → ltb p (products_before (k + 1)) ≡ b → (products_before (k + 1) ≤ p → unwrap_or rest group_count ≡ group_of p)
        → unwrap_or (cond b (Some k) rest) group_count ≡ group_of p
    go true t later = sym (between k p from (ltb-true _ _ t))
    go false t later = later (ltb-false _ _ t)

pub found_group : (p : ℕ) → unwrap_or (find (λ (g : ℕ). ltb p (products_before (g + 1))) (range_with_len 0 group_count)) group_count ≡ group_of p
found_group p = group_from p 0 group_count refl (none_before p)
