-- The table of groups: what is computed over it at once, and what follows for a number that is no product or no group.
use Prim.Native.Nat.{ℕ, suc, ◌<◌, ◌≤◌}
use mathlib.Core.Path.{◌≡◌, refl, ap}
use mathlib.Core.Bool.{Bool, true, false, false≢true}
use mathlib.Core.List.{List, [], ◌∷◌}
use native.Mathlib.Omega.{arith}
use lib.Dec.{ltb, eqb}
use lib.ListN.{length, get_or-eq_default}
use borrow.Author.Tests.{ltb-true, ltb-false, eqb-true, ne_eqb}
use Rattle.grain.specs.Lists.{◌and◌, every, is_in}
use Rattle.grain.specs.Products.{product_count, is_product}
use Rattle.grain.proofs.Tests.{and_left, and_right}
use Rattle.grain.proofs.Below.{below}
use Rattle.record.specs.State.{group_table, group_count, place_in, group_of}
use Rattle.record.specs.History.{products_of}

pub group_small : (p : ℕ) → p < product_count → group_of p < group_count
unfolding group_table
group_small p l = ltb-true _ _ (below product_count (λ (p : ℕ). ltb (group_of p) group_count) refl p l)

-- a product stands in its group
pub own_group : (p : ℕ) → p < product_count → is_in p (products_of (group_of p)) ≡ true
unfolding group_table
own_group = below product_count (λ (p : ℕ). is_in p (products_of (group_of p))) refl

-- and those of a group are products of it
abbrev pub is_member : ℕ → ℕ → Bool
is_member g p = is_product p and eqb (group_of p) g

pub members : (g : ℕ) → g < group_count → every (is_member g) (products_of g) ≡ true
unfolding group_table every ◌and◌
members = below group_count (λ (g : ℕ). every (is_member g) (products_of g)) refl

pub small_products : (g : ℕ) → g < group_count → every is_product (products_of g) ≡ true
unfolding group_table every ◌and◌
small_products = below group_count (λ (g : ℕ). every is_product (products_of g)) refl

all_small : every (λ (ps : List ℕ). every is_product ps) group_table ≡ true
unfolding group_table every ◌and◌
all_small = refl

-- ---- a product of a list
passes : (t : ℕ → Bool) (p : ℕ) (ps : List ℕ) → is_in p ps ≡ true → every t ps ≡ true → t p ≡ true
unfolding every
passes t p [] e f = absurd (false≢true e)
passes t p (q ∷ ps) e f = go (eqb p q) refl (passes t p ps)
  where
    go : (x : Bool) → eqb p q ≡ x → (is_in p ps ≡ true → every t ps ≡ true → t p ≡ true) → t p ≡ true
    go true s later = rw (eqb-true p q s) (and_left _ _ f)
    go false s later = later (rw s at e) (and_right _ _ f)

-- no product is in a group that there is not
no_products : (g : ℕ) → group_count ≤ g → products_of g ≡ []
unfolding group_table
no_products g h = get_or-eq_default group_table [] {n = g} h

pub is_of_lem : (g p : ℕ) → is_in p (products_of g) ≡ true → group_of p ≡ g
is_of_lem g p e = go (ltb g group_count) refl
  where
    go : (b : Bool) → ltb g group_count ≡ b → group_of p ≡ g
    go true l = eqb-true _ _ (and_right _ _ (passes (is_member g) p (products_of g) e (members g (ltb-true _ _ l))))
    go false l = let none : is_in p [] ≡ true = rw (no_products g (ltb-false _ _ l)) at e in absurd (false≢true none)

-- ---- a number that is no product is in no group
module _ (p : ℕ) (h : product_count ≤ p) where
  not_in : (ps : List ℕ) → every is_product ps ≡ true → is_in p ps ≡ false
  unfolding every
  not_in [] t = refl
  not_in (q ∷ ps) t =
      let small : q < product_count = ltb-true _ _ (and_left _ _ t) in
      rw (ne_eqb p q (omega arith)) (not_in ps (and_right _ _ t))

  no_place : (l : List (List ℕ)) → every (λ (ps : List ℕ). every is_product ps) l ≡ true → place_in l p ≡ length l
  unfolding every
  no_place [] t = refl
  no_place (ps ∷ l) t = rw (not_in ps (and_left _ _ t)) (ap suc (no_place l (and_right _ _ t)))

  pub no_group_lem : group_of p ≡ group_count
  unfolding group_table
  no_group_lem = no_place group_table all_small
