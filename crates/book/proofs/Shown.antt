-- The tests of soundness over a book's groups, as tests over the numbers of its products and of its groups.
use Prim.Native.Nat.{ℕ}
use mathlib.Core.Path.{◌≡◌, refl, sym, ◌∙◌, ap, ap₂}
use mathlib.Core.Bool.{Bool, true, false, not, ◌&&◌, ◌||◌, cond}
use mathlib.Core.List.{List, map}
use Rattle.std.specs.List.{list_all}
use lib.ListN.{length}
use Rattle.grain.specs.Lists.{◌and◌, every}
use Rattle.grain.proofs.Every.{every_mapped}
use Rattle.std.specs.Prelude.{is_some}
use Rattle.record.specs.Choices.{concat_map}
use Rattle.record.specs.State.{Product, Group, group_table}
use Rattle.record.specs.Edition.{is_edition, conditions_of}
use Rattle.record.specs.Sound.{is_sound_product, is_expanded, is_sound_group, is_sound_date, every_product, is_sound}
use Rattle.record.specs.History.{products_of}
use Rattle.sheets.specs.Sheets.{sheet_in}
use Rattle.book.specs.declared.Book.{Book}
use Rattle.book.specs.Book.{no_sheet, no_standing, is_set, is_book, edition_in, opened_in, standing_in, today_in, last_in, level_of, view_product, view_group, view_groups, view_common, view}
use Rattle.book.specs.Numbers.{all_products, all_groups}
use Rattle.book.specs.Soundness.{are_settlements_sound, is_there, is_missing, are_last_sound, is_mark_sound}
use Rattle.book.proofs.Everies.{and_assoc, every_both, every_concat}
use Rattle.book.proofs.ProductTests.{is_limit_sound, products_split}
use Rattle.book.proofs.Items.{every_place}
use Rattle.book.proofs.Views.{shown_group, groups_are}

products_are : (b : Book) → concat_map (λ (g : Group). g.products) (view_groups b 0 group_table) ≡ map (view_product b) all_products
unfolding group_table view_group
products_are b = refl

pub flat : (b : Book) (f : Product → Bool) → every_product f (view_groups b 0 group_table) ≡ every (λ p. f (view_product b p)) all_products
flat b f =
    every_concat f (λ (g : Group). g.products) (view_groups b 0 group_table)
    ∙ ap (every f) (products_are b)
    ∙ every_mapped (λ p. f (view_product b p)) (view_product b) f (λ p. refl) all_products

-- a mark only on an expanded group, of a group as it is shown
abbrev is_mark_shown_sound : Bool → Group → Bool
is_mark_shown_sound marks g = not g.mark || (is_expanded g.level && marks)

pub is_expanded_lem : (e : Bool) → is_expanded (level_of e) ≡ e
is_expanded_lem true = refl
is_expanded_lem false = refl

mark_shown : (marks : Bool) (b : Book) (g : ℕ) (ps : List ℕ) → is_mark_shown_sound marks (view_group b g ps) ≡ is_mark_sound marks (standing_in b g)
unfolding view_group
mark_shown marks b g ps =
    ap (λ (e : Bool). not (is_set (standing_in b g).marked) || (e && marks)) (is_expanded_lem (is_set (standing_in b g).expanded))

-- groups are marked in the edition of the book
abbrev pub has_marks : Book → Bool
has_marks b = (conditions_of (edition_in b)).has_marks

marks_are : (b : Book)
    → every (is_mark_shown_sound (has_marks b)) (view_groups b 0 group_table) ≡ every (λ g. is_mark_sound (has_marks b) (standing_in b g)) all_groups
marks_are b =
    ap (every (is_mark_shown_sound (has_marks b))) (groups_are b)
    ∙ every_mapped (λ g. is_mark_sound (has_marks b) (standing_in b g)) (shown_group b) (is_mark_shown_sound (has_marks b)) (λ g. mark_shown (has_marks b) b g (products_of g)) all_groups

pub groups_shown : (b : Book)
    → every (is_sound_group (edition_in b)) (view_groups b 0 group_table)
    ≡ every (λ g. is_mark_sound (has_marks b) (standing_in b g)) all_groups
    and every (is_limit_sound b) all_products
    and every (are_settlements_sound b) all_products
unfolding is_sound_group
groups_shown b =
    every_both (is_mark_shown_sound (has_marks b)) (λ (g : Group). every is_sound_product g.products) (view_groups b 0 group_table)
    ∙ ap₂ ◌and◌ (marks_are b) (flat b is_sound_product ∙ products_split b)
    ∙ sym (and_assoc _ (every (is_limit_sound b) all_products) (every (are_settlements_sound b) all_products))

-- the tests of a book, one after the other
pub sound_is : (b : Book)
    → is_sound (view b)
    ≡ (is_edition (edition_in b)
    and is_sound_date (opened_in b) (is_set b.is_open)
    and (every (λ g. is_mark_sound (has_marks b) (standing_in b g)) all_groups
    and every (is_limit_sound b) all_products
    and every (are_settlements_sound b) all_products)
    and (is_set b.is_open || every (λ p. not (is_some (sheet_in (today_in b p)))) all_products)
    and ((is_some (opened_in b) and every (λ p. is_some (sheet_in (last_in b p))) all_products)
    || every (λ p. not (is_some (sheet_in (last_in b p)))) all_products))
unfolding is_sound view view_common view_product
sound_is b =
    ap₂ ◌and◌
    (ap₂ ◌and◌
    (ap ((is_edition (edition_in b) and is_sound_date (opened_in b) (is_set b.is_open)) and◌) (groups_shown b))
    (ap (is_set b.is_open ||◌) (flat b (λ q. not (is_some q.today)))))
    (ap₂ ◌||◌
    (ap (is_some (opened_in b) and◌) (flat b (λ q. is_some q.last)))
    (flat b (λ q. not (is_some q.last))))

in_a_row : (x c l d e f : Bool) → (x and ((c and l) and d) and e and f) ≡ (x && c && l && d && e && f)
unfolding ◌and◌
in_a_row true c l d e f = refl
in_a_row false c l d e f = refl

-- the same, with the tests of all places of an array as one
in_places : (b : Book) → length b.standings ≡ 5 → length b.today ≡ 8 → length b.last ≡ 8
    → is_sound (view b)
    ≡ (is_edition (edition_in b)
    && is_sound_date (opened_in b) (is_set b.is_open)
    && list_all (is_mark_sound (has_marks b)) b.standings
    && every (is_limit_sound b) all_products
    && every (are_settlements_sound b) all_products
    && (is_set b.is_open || list_all is_missing b.today)
    && are_last_sound (opened_in b) b.last)
unfolding ◌and◌
in_places b five eight eight' =
    sound_is b
    ∙ rw
    (every_place (is_mark_sound (has_marks b)) 5 b.standings no_standing five, every_place is_missing 8 b.today no_sheet eight, every_place is_there 8 b.last no_sheet eight', every_place is_missing 8 b.last no_sheet eight')
    (in_a_row (is_edition (edition_in b) && is_sound_date (opened_in b) (is_set b.is_open)) _ _ _ _ _)

-- and where the format and the flags are a book's, by its own edition
module _ (b : Book) where
  abbrev rest : ℕ → Bool
  rest e =
      is_edition e
      && is_sound_date (opened_in b) (is_set b.is_open)
      && list_all (is_mark_sound (conditions_of e).has_marks) b.standings
      && every (is_limit_sound b) all_products
      && every (are_settlements_sound b) all_products
      && (is_set b.is_open || list_all is_missing b.today)
      && are_last_sound (opened_in b) b.last

  abbrev all_of : Bool → ℕ → Bool
  all_of x e =
      x
      && is_edition e
      && is_sound_date (opened_in b) (is_set b.is_open)
      && list_all (is_mark_sound (conditions_of e).has_marks) b.standings
      && every (is_limit_sound b) all_products
      && every (are_settlements_sound b) all_products
      && (is_set b.is_open || list_all is_missing b.today)
      && are_last_sound (opened_in b) b.last

  rest_by : (x : Bool) → rest (cond x b.edition 0) ≡ all_of x b.edition
  rest_by true = refl
  rest_by false = refl

  rest_is : rest (edition_in b) ≡ all_of (is_book b) b.edition
  unfolding edition_in
  rest_is = rest_by (is_book b)

  pub sound_tests : length b.standings ≡ 5 → length b.today ≡ 8 → length b.last ≡ 8
      → is_sound (view b)
      ≡ (is_book b
      && is_edition b.edition
      && is_sound_date (opened_in b) (is_set b.is_open)
      && list_all (is_mark_sound (conditions_of b.edition).has_marks) b.standings
      && every (is_limit_sound b) all_products
      && every (are_settlements_sound b) all_products
      && (is_set b.is_open || list_all is_missing b.today)
      && are_last_sound (opened_in b) b.last)
  sound_tests five eight eight' = in_places b five eight eight' ∙ rest_is
