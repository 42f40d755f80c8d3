-- What an accepted opening leaves of each product and each group, and what it answers.
use Prim.Native.Nat.{ℕ, ◌<◌}
use mathlib.Core.Path.{◌≡◌, refl, sym, ◌∙◌, ap}
use mathlib.Core.Bool.{Bool, true, false, cond}
use mathlib.Core.List.{[], map}
use lib.ListN.{get_or-replicate}
use Rattle.std.specs.Prelude.{Some}
use Rattle.std.specs.List.{list_any}
use Rattle.grain.specs.Products.{product_count}
use Rattle.grain.proofs.Every.{any_mapped}
use Rattle.record.specs.declared.Day.{Day}
use Rattle.record.specs.State.{group_count, initial, group_table}
use Rattle.record.specs.Opening.{is_next_season, is_other_season, is_renewed, open_product, has_new_limits, open_group}
use Rattle.record.specs.Record.{opening, change, opened, answer, next, next_common, next_group}
use Rattle.record.specs.History.{products_of}
use Rattle.windows.specs.declared.Windows.{Windows}
use Rattle.windows.specs.Windows.{kept_of, shown, empty_windows}
use Rattle.book.specs.declared.Book.{Book}
use Rattle.book.specs.declared.standing.Standing.{Standing}
use Rattle.book.specs.Book.{is_set, edition_in, opened_in, limit_in, window_of, standing_in, level_of, view_product, view_group, view_common, view}
use Rattle.book.specs.Numbers.{all_products}
use Rattle.book.proofs.Views.{group_view, next-view}
use Rattle.opening.specs.Opens.{is_renewed_by, limit_on, standing_on}

-- the product gets its season limits
abbrev pub renewed_on : Book → Day → ℕ → Bool
renewed_on b d p = is_renewed_by (is_next_season (opened_in b) d) (window_of b p)

-- the parts of the book after it
pub record OpenedOn (b : Book) (d : Day) (z : Book) : Type 0 where
  pub limits : (p : ℕ) → p < product_count → limit_in z p ≡ limit_on (is_next_season (opened_in b) d) (window_of b p) p (limit_in b p)
  pub windows : z.windows ≡ cond (is_other_season (opened_in b) d) empty_windows b.windows
  pub today : z.today ≡ b.today
  pub last : z.last ≡ b.last
  pub standings : (g : ℕ) → g < group_count → standing_in z g ≡ standing_on (list_any (renewed_on b d) (products_of g)) (standing_in b g)
  pub edition : edition_in z ≡ edition_in b
  pub opened : opened_in z ≡ Some d
  pub is_open : is_set z.is_open ≡ true

-- the group gets new limits
pub new_limits : (b : Book) (d : Day) (g : ℕ)
    → has_new_limits (view_common b) d (view_group b g (products_of g)) ≡ list_any (renewed_on b d) (products_of g)
unfolding has_new_limits is_renewed view_group view_product view_common
new_limits b d g = any_mapped (renewed_on b d) (view_product b) (is_renewed (view_common b) d) (λ p. refl) (products_of g)

-- the level and the mark that a standing shows
level_on : (x : Bool) (s : Standing) → level_of (is_set (standing_on x s).expanded) ≡ cond x initial (level_of (is_set s.expanded))
level_on true s = refl
level_on false s = refl

mark_on : (x : Bool) (s : Standing) → is_set (standing_on x s).marked ≡ cond x false (is_set s.marked)
mark_on true s = refl
mark_on false s = refl

-- the windows that an opening leaves
shown_if : (x : Bool) (ws : Windows) (p : ℕ) → p < product_count → shown (cond x empty_windows ws) p ≡ cond x [] (shown ws p)
unfolding shown kept_of
shown_if true ws p l = rw (get_or-replicate {A = ℕ} product_count p 0 0 l)
shown_if false ws p l = refl

module _ (b : Book) (d : Day) (z : Book) (on : OpenedOn b d z) where
  product_opened : (p : ℕ) → p < product_count → view_product z p ≡ open_product (view_common b) d (view_product b p)
  unfolding view_product view_common open_product is_renewed
  product_opened p l = go (is_renewed_by (is_next_season (opened_in b) d) (window_of b p)) refl
    where
      go : (x : Bool) → is_renewed_by (is_next_season (opened_in b) d) (window_of b p) ≡ x → view_product z p ≡ open_product (view_common b) d (view_product b p)
      go true e = rw (on.limits p l, on.windows, on.today, on.last, shown_if (is_other_season (opened_in b) d) b.windows p l, e)
      go false e = rw (on.limits p l, on.windows, on.today, on.last, shown_if (is_other_season (opened_in b) d) b.windows p l, e)

  group_opened : (g : ℕ) → g < group_count
      → view_group z g (products_of g) ≡ next_group (view_common b) (opening d) (view_group b g (products_of g))
  unfolding view_group next_group open_group
  group_opened g l =
      let x = has_new_limits (view_common b) d (view_group b g (products_of g)) in
      let stands : standing_in z g ≡ standing_on x (standing_in b g) = on.standings g l ∙ ap (λ (r : Bool). standing_on r (standing_in b g)) (sym (new_limits b d g)) in
      rw (group_view b z (open_product (view_common b) d) g l product_opened, stands, level_on x (standing_in b g), mark_on x (standing_in b g))

  common_opened : view_common z ≡ next_common (view_common b) (opening d)
  unfolding view_common next_common
  common_opened = rw (on.edition, on.opened, on.is_open)

  pub opened_view : view z ≡ next (view b) (opening d)
  opened_view = next-view b z (opening d) common_opened group_opened

-- the answers, product by product
pub renewed-answer : (b : Book) (d : Day) → opened (map (renewed_on b d) all_products) ≡ answer (view b) (change (opening d))
unfolding answer view view_common view_group view_product group_table is_renewed
renewed-answer b d = refl
