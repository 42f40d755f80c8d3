-- A book with an edition, a limit for each product and nothing else in it shows a founded Record.
use Prim.Native.Nat.{ℕ, ◌<◌}
use mathlib.Core.Path.{◌≡◌, refl, sym, ◌∙◌}
use mathlib.Core.Bool.{true}
use mathlib.Core.List.{List, map}
use lib.ListN.{length, get_or, replicate, get_or-replicate}
use borrow.Author.Tests.{ltb-true, eq-eqb}
use Rattle.grain.specs.Lists.{◌and◌, every}
use Rattle.grain.specs.Products.{product_count, is_product}
use Rattle.grain.specs.Amounts.{expanded_of, is_fit_founding}
use Rattle.record.specs.State.{no_day, group_table, group_count}
use Rattle.record.specs.Founding.{Start, limit_of, are_fit, found_product, found_group, founded}
use Rattle.record.specs.History.{products_of}
use Rattle.record.proofs.GroupTable.{small_products}
use Rattle.sheets.specs.Sheets.{empty_sheet, sheet_in}
use Rattle.windows.specs.Windows.{empty_windows, kept_of, shown}
use Rattle.grain.specs.declared.amounts.Limit.{Limit}
use Rattle.book.specs.declared.Book.{Book}
use Rattle.book.specs.Book.{no_limit, no_standing, no_sheet, is_book, edition_in, opened_in, view_product, view_group, view_common, view}
use Rattle.book.specs.Numbers.{all_products, all_groups}
use Rattle.book.proofs.Everies.{every_concat}
use Rattle.book.proofs.Numbers.{map_same}
use Rattle.book.proofs.Views.{shown_group, groups_are, same_groups}

-- 13 is asked of each product in turn
pub fit_is : (limits : List ℕ) → length limits ≡ product_count → are_fit limits ≡ every (λ p. is_fit_founding p (get_or limits p 0)) all_products
unfolding are_fit group_table ◌and◌
fit_is limits long =
    rw (eq-eqb (length limits) product_count long) (every_concat (λ p. is_fit_founding p (get_or limits p 0)) (λ (ps : List ℕ). ps) group_table)

-- a book with an edition and those limits
abbrev pub founded_book : Start → List Limit → Book
founded_book s limits =
    record {
      format = 3;
      edition = s.edition;
      is_open = 0;
      day = no_day;
      limits = limits;
      standings = replicate group_count no_standing;
      windows = empty_windows;
      today = replicate product_count empty_sheet;
      last = replicate product_count empty_sheet;
    }

module _ (s : Start) (limits : List Limit) (each : (p : ℕ) → p < product_count → get_or limits p no_limit ≡ record { initial = limit_of s p; expanded = expanded_of p (limit_of s p) }) where
  abbrev b : Book
  b = founded_book s limits

  product_shown : (p : ℕ) → is_product p ≡ true → view_product b p ≡ found_product s p
  unfolding view_product found_product shown kept_of sheet_in
  product_shown p t =
      let l = ltb-true p product_count t in
      rw (each p l, get_or-replicate product_count p empty_sheet no_sheet l, get_or-replicate {A = ℕ} product_count p 0 0 l)

  group_shown : (g : ℕ) → g < group_count → shown_group b g ≡ found_group s (products_of g)
  unfolding view_group found_group
  group_shown g l =
      let products = map_same is_product (view_product b) (found_product s) product_shown (products_of g) (small_products g l) in
      rw (products, get_or-replicate group_count g no_standing no_standing l)

  -- the groups of a founded Record, number by number
  founded_groups : map (found_group s) group_table ≡ map (λ g. found_group s (products_of g)) all_groups
  unfolding group_table
  founded_groups = refl

  pub founded_shown : view b ≡ founded s
  unfolding view view_common edition_in is_book opened_in founded
  founded_shown =
      let groups = groups_are b ∙ same_groups (shown_group b) (λ g. found_group s (products_of g)) group_shown ∙ sym founded_groups in
      rw groups
