-- A loop over the products, each of which brings its group to the initial level where it gets new limits.
use Prim.Native.Nat.{ℕ, ◌+◌, ◌<◌, ◌≤◌}
use mathlib.Core.Path.{◌≡◌, refl, sym, ◌∙◌, ap}
use mathlib.Core.Bool.{Bool, true, false, ◌&&◌, ◌||◌}
use mathlib.Core.List.{List, map}
use lib.Dec.{eqb}
use lib.ListN.{length, get_or, set, drop, length-set, drop_of_length-le}
use lib.Seq.{get_or-set_same, get_or-set_other}
use borrow.Author.Tests.{ltb-true, eqb-true, eqb-false}
use Rattle.std.specs.List.{list_any}
use Rattle.grain.specs.Products.{product_count, is_product}
use Rattle.grain.proofs.Scans.{drop-next}
use Rattle.grain.proofs.Below.{each}
use Rattle.record.specs.State.{group_table, group_count, group_of}
use Rattle.record.specs.History.{products_of}
use Rattle.record.proofs.GroupTable.{group_small, small_products}
use Rattle.book.specs.declared.standing.Standing.{Standing}
use Rattle.book.specs.Book.{no_standing}
use Rattle.book.specs.Numbers.{all_products}
use Rattle.book.proofs.Numbers.{number_at, value_at, any_same}
use Rattle.opening.specs.Opens.{is_one_renewed, standing_on}

-- the product is of the group, and gets new limits
abbrev brings : List Bool → ℕ → ℕ → Bool
brings renewed g p = eqb (group_of p) g && get_or renewed p false

-- before product p: what the products from p on bring makes of each group what all of them do
pub record StartedTo (renewed : List Bool) (old : ℕ → Standing) (p : ℕ) (xs : List Standing) : Type 0 where
  pub long : length xs ≡ group_count
  pub at : (g : ℕ) → g < group_count
      → standing_on (list_any (brings renewed g) (drop p all_products)) (get_or xs g no_standing) ≡ standing_on (list_any (brings renewed g) all_products) (old g)

pub started_first : (renewed : List Bool) (xs : List Standing) → length xs ≡ group_count → StartedTo renewed (λ g. get_or xs g no_standing) 0 xs
started_first renewed xs long = record { long = long; at = λ g l. refl }

-- two in a row are one
twice : (a b : Bool) (s : Standing) → standing_on b (standing_on a s) ≡ standing_on (a || b) s
twice true true s = refl
twice true false s = refl
twice false b s = refl

-- the products that bring a group to its start are its own
of_group : (renewed : List Bool) (g : ℕ) → g < group_count → list_any (brings renewed g) all_products ≡ is_one_renewed renewed (products_of g)
unfolding group_table
of_group renewed = each (λ g. list_any (brings renewed g) all_products ≡ is_one_renewed renewed (products_of g)) group_count search

module _ (renewed : List Bool) (old : ℕ → Standing) (p : ℕ) (xs : List Standing) (s : StartedTo renewed old p xs) where
  next-brings : p < product_count → (g : ℕ) → list_any (brings renewed g) (drop p all_products) ≡ brings renewed g p || list_any (brings renewed g) (drop (p + 1) all_products)
  next-brings l g =
      ap (list_any (brings renewed g)) (drop-next all_products p l)
      ∙ ap (λ (q : ℕ). brings renewed g q || list_any (brings renewed g) (drop (p + 1) all_products)) (number_at product_count p l)

  pub started_next : p < product_count → (v : Standing) → v ≡ standing_on (get_or renewed p false) (get_or xs (group_of p) no_standing)
      → StartedTo renewed old (p + 1) (set xs (group_of p) v)
  started_next l v e =
      let fits : group_of p < length xs = rw s.long (group_small p l) in
      record { long = length-set xs (group_of p) v ∙ s.long; at = λ g h. go fits g h (eqb (group_of p) g) refl }
    where
      go : group_of p < length xs → (g : ℕ) → g < group_count → (same : Bool) → eqb (group_of p) g ≡ same
          → standing_on (list_any (brings renewed g) (drop (p + 1) all_products)) (get_or (set xs (group_of p) v) g no_standing)
          ≡ standing_on (list_any (brings renewed g) all_products) (old g)
      go fits g h true t =
          let is : group_of p ≡ g = eqb-true _ _ t in
          let rest = list_any (brings renewed g) (drop (p + 1) all_products) in
          let set_here : get_or (set xs (group_of p) v) g no_standing ≡ standing_on (get_or renewed p false) (get_or xs g no_standing) =
          rw (← is) (get_or-set_same xs (group_of p) v no_standing fits ∙ e) in
          let both : list_any (brings renewed g) (drop p all_products) ≡ get_or renewed p false || rest = next-brings l g ∙ rw t in
          ap (standing_on rest) set_here
          ∙ twice (get_or renewed p false) rest (get_or xs g no_standing)
          ∙ ap (λ (b : Bool). standing_on b (get_or xs g no_standing)) (sym both)
          ∙ s.at g h
      go fits g h false t =
          let rest = list_any (brings renewed g) (drop (p + 1) all_products) in
          let other = get_or-set_other xs (group_of p) g v no_standing (λ e. eqb-false _ _ t (sym e)) in
          let later : list_any (brings renewed g) (drop p all_products) ≡ rest = next-brings l g ∙ rw t in
          ap (standing_on rest) other
          ∙ ap (λ (b : Bool). standing_on b (get_or xs g no_standing)) (sym later)
          ∙ s.at g h

  pub started_all : product_count ≤ p → (g : ℕ) → g < group_count → get_or xs g no_standing ≡ standing_on (is_one_renewed renewed (products_of g)) (old g)
  started_all l g h =
      ap (λ (ps : List ℕ). standing_on (list_any (brings renewed g) ps) (get_or xs g no_standing)) (sym (drop_of_length-le all_products l))
      ∙ s.at g h
      ∙ ap (λ (b : Bool). standing_on b (old g)) (of_group renewed g h)

-- the answers of all products, where they are one test of each
pub one-renewed : (f : ℕ → Bool) (g : ℕ) → g < group_count → is_one_renewed (map f all_products) (products_of g) ≡ list_any f (products_of g)
one-renewed f g l =
    any_same is_product _ f (λ p t. value_at false f product_count p (ltb-true p product_count t)) (products_of g) (small_products g l)
