-- The contents of a book by product and by group.
use Prim.Native.Nat.{ℕ, ◌<◌}
use mathlib.Core.Path.{◌≡◌, refl, sym, ◌∙◌, ap}
use mathlib.Core.Bool.{Bool, true, false, false≢true}
use mathlib.Core.List.{List, [], ◌∷◌, map}
use lib.Dec.{ltb, eqb}
use lib.ListN.{get_or}
use borrow.Author.Tests.{ltb-true, eqb-true, eq-eqb, eqb-false, ne_eqb}
use Rattle.grain.specs.Lists.{◌and◌, every, is_in}
use Rattle.grain.specs.Products.{product_count, is_product}
use Rattle.record.specs.State.{Product, Group, group_table, group_count, group_of, no_group, group_at, find, product_in}
use Rattle.record.specs.Record.{Change, next, next_common, next_group}
use Rattle.record.specs.History.{products_of}
use Rattle.record.proofs.GroupTable.{group_small, own_group, small_products}
use Rattle.book.specs.declared.Book.{Book}
use Rattle.book.specs.Book.{is_set, view_product, view_group, view_groups, view_common, view}
use Rattle.book.specs.Numbers.{all_groups}
use Rattle.book.proofs.Numbers.{value_at, map_same}
use Rattle.std.proofs.lemmas.Simd.{map-map}

-- a group of a book, by its number
abbrev pub shown_group : Book → ℕ → Group
shown_group b g = view_group b g (products_of g)

-- the groups of a book, number by number: all that is shown of them follows from this
pub groups_are : (b : Book) → view_groups b 0 group_table ≡ map (shown_group b) all_groups
unfolding group_table
groups_are b = refl

pub group_is : (b : Book) (g : ℕ) → g < group_count → group_at (view b) g ≡ shown_group b g
unfolding view
group_is b g l =
    ap (λ (gs : List Group). get_or gs g no_group) (groups_are b) ∙ value_at no_group (shown_group b) group_count g l

-- a product in its own group
found_shown : (b : Book) (p : ℕ) (ps : List ℕ) → is_in p ps ≡ true → find p (map (view_product b) ps) ≡ view_product b p
unfolding view_product
found_shown b p [] t = absurd (false≢true t)
found_shown b p (q ∷ ps) t = go (eqb p q) refl (found_shown b p ps)
  where
    go : (x : Bool) → eqb p q ≡ x → (is_in p ps ≡ true → find p (map (view_product b) ps) ≡ view_product b p)
        → find p (map (view_product b) (q ∷ ps)) ≡ view_product b p
    go true e later = let is = eqb-true p q e in rw (← is, eq-eqb p p refl)
    go false e later = rw (ne_eqb q p (λ (is : q ≡ p). eqb-false p q e (sym is))) (later (rw e at t))

pub product_is : (b : Book) (p : ℕ) → p < product_count → product_in (group_at (view b) (group_of p)) p ≡ view_product b p
unfolding view_group
product_is b p l =
    ap (λ (g : Group). product_in g p) (group_is b (group_of p) (group_small p l))
    ∙ found_shown b p (products_of (group_of p)) (own_group p l)

pub open_is : (b : Book) → (view b).common.is_open ≡ is_set b.is_open
unfolding view view_common
open_is b = refl

-- ---- from what a call does to each product and each group to the view
-- the products of a list that pass a test
pub products_view : (b z : Book) (f : Product → Product) (t : ℕ → Bool) → ((p : ℕ) → t p ≡ true → view_product z p ≡ f (view_product b p))
    → (ps : List ℕ) → every t ps ≡ true → map (view_product z) ps ≡ map f (map (view_product b) ps)
products_view b z f t e ps passes =
    map_same t (view_product z) (λ p. f (view_product b p)) e ps passes ∙ sym (map-map f (view_product b) ps)

-- a call that changes levels by group and products one by one
pub group_view : (b z : Book) (f : Product → Product) (g : ℕ) → g < group_count
    → ((p : ℕ) → p < product_count → view_product z p ≡ f (view_product b p))
    → (shown_group z g).products ≡ map f (shown_group b g).products
unfolding view_group
group_view b z f g l e = products_view b z f is_product (λ p t. e p (ltb-true p product_count t)) (products_of g) (small_products g l)

small_groups : every (λ g. ltb g group_count) all_groups ≡ true
unfolding every ◌and◌
small_groups = refl

-- two functions of a group's number that agree on the groups
pub same_groups : {A : Type 0} (f h : ℕ → A) → ((g : ℕ) → g < group_count → f g ≡ h g) → map f all_groups ≡ map h all_groups
same_groups f h e = map_same (λ g. ltb g group_count) f h (λ g t. e g (ltb-true g group_count t)) all_groups small_groups

all_groups_lem : (b z : Book) (k : Group → Group) → ((g : ℕ) → g < group_count → shown_group z g ≡ k (shown_group b g))
    → view_groups z 0 group_table ≡ map k (view_groups b 0 group_table)
all_groups_lem b z k e =
    groups_are z
    ∙ same_groups (shown_group z) (λ g. k (shown_group b g)) e
    ∙ sym (ap (map k) (groups_are b) ∙ map-map k (shown_group b) all_groups)

-- the whole Record, from what is common and the groups
pub next-view : (b z : Book) (c : Change) → view_common z ≡ next_common (view_common b) c
    → ((g : ℕ) → g < group_count → shown_group z g ≡ next_group (view_common b) c (shown_group b g))
    → view z ≡ next (view b) c
unfolding view next
next-view b z c e f = let gs = all_groups_lem b z (next_group (view_common b) c) f in rw (e, gs)
