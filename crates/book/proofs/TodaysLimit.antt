-- The level of a product's group, and the limit that it gives; a number that is no product has none.
use Prim.Native.Nat.{ℕ, ◌<◌, ◌≤◌}
use mathlib.Core.Path.{◌≡◌, ◌∙◌, ap}
use Rattle.grain.specs.Products.{product_count}
use Rattle.record.specs.State.{Level, Group, group_table, group_of, group_at, product_in, limit_at, todays_limit}
use Rattle.record.proofs.GroupTable.{group_small, no_group_lem}
use Rattle.book.specs.declared.Book.{Book}
use Rattle.book.specs.Book.{limit_in, standing_in, level_of, is_set, view_product, view_group, view}
use Rattle.book.proofs.Views.{group_is, product_is}

pub no_limit_lem : (b : Book) (p : ℕ) → product_count ≤ p → todays_limit (group_at (view b) (group_of p)) p ≡ 0
unfolding view group_table
no_limit_lem b p h = rw (no_group_lem p h)

pub level_is : (b : Book) (p : ℕ) → p < product_count → (group_at (view b) (group_of p)).level ≡ level_of (is_set (standing_in b (group_of p)).expanded)
unfolding view_group
level_is b p l = ap (λ (g : Group). g.level) (group_is b (group_of p) (group_small p l))

pub limit_is : (b : Book) (p : ℕ) → p < product_count
    → todays_limit (group_at (view b) (group_of p)) p
    ≡ limit_at (level_of (is_set (standing_in b (group_of p)).expanded)) (limit_in b p).initial (limit_in b p).expanded
unfolding view_product
limit_is b p l =
    ap (λ (v : Level). limit_at v (product_in (group_at (view b) (group_of p)) p).initial_limit (product_in (group_at (view b) (group_of p)) p).expanded_limit) (level_is b p l)
    ∙ ap (λ (q : Rattle.record.specs.State.Product). limit_at (level_of (is_set (standing_in b (group_of p)).expanded)) q.initial_limit q.expanded_limit) (product_is b p l)
