-- What refuses a conversion of a book, and the book that an accepted one leaves.
use Rattle.std.proofs.Common.{ℕ, ◌≡◌, refl, sym, ◌∙◌, ap, true, false, cond, eqb, length, List, [], ◌∷◌}
use Rattle.std.specs.Prelude.{◌&&◌, Some, None}
use Rattle.std.specs.List.{list_any}
use Rattle.grain.proofs.Every.{any_mapped}
use Rattle.record.specs.Refusals.{Test, when, group_expanded}
use Rattle.record.specs.State.{Group, group_count}
use Rattle.record.specs.Sound.{is_expanded, is_sound}
use Rattle.record.specs.Conversion.{has_expanded, conversion_tests}
use Rattle.record.specs.Record.{convert, change, tests, refusal, next, next_common, next_group}
use Rattle.book.specs.declared.Book.{Book}
use Rattle.book.specs.Book.{no_standing, is_set, is_book, edition_in, opened_in, standing_in, view_product, view_group, view_common, view}
use Rattle.book.specs.Numbers.{all_groups}
use Rattle.book.specs.declared.standing.Standing.{Standing}
use Rattle.book.specs.Phase.{phase_refusal}
use Rattle.book.proofs.Numbers.{values_are}
use Rattle.book.proofs.Phases.{refused_early, decided_late, passed}
use Rattle.book.proofs.Shown.{is_expanded_lem}
use Rattle.book.proofs.SoundFacts.{book_sound, edition_is}
use Rattle.book.proofs.Views.{shown_group, groups_are, next-view}
use Rattle.converting.specs.Converts.{with_2023}

expanded_shown : (b : Book) (g : ℕ) → is_expanded (shown_group b g).level ≡ is_set (standing_in b g).expanded
unfolding view_group
expanded_shown b g = is_expanded_lem (is_set (standing_in b g).expanded)

-- a group of the view is expanded where a standing is
expanded_is : (b : Book) → length b.standings ≡ group_count → has_expanded (view b).groups ≡ list_any (λ (s : Standing). is_set s.expanded) b.standings
unfolding view
expanded_is b long =
    ap has_expanded (groups_are b)
    ∙ any_mapped (λ g. is_set (standing_in b g).expanded) (shown_group b) (λ (g : Group). is_expanded g.level) (expanded_shown b) all_groups
    ∙ sym (any_mapped (λ g. is_set (standing_in b g).expanded) (standing_in b) (λ (s : Standing). is_set s.expanded) (λ g. refl) all_groups)
    ∙ ap (list_any (λ (s : Standing). is_set s.expanded)) (sym (values_are no_standing (standing_in b) group_count b.standings long (λ i l. refl)))

-- the tests after the first two
abbrev edition_tests : Book → List Test
edition_tests b = when (eqb (view b).common.edition 2014 && has_expanded (view b).groups) group_expanded ∷ []

-- refused by the first two
pub phase_refuses : (b : Book) (n : ℕ) → Some n ≡ phase_refusal false (view b) → Some n ≡ refusal (view b) (change convert)
unfolding refusal tests conversion_tests
phase_refuses b n e = sym (refused_early (view b) _ n (edition_tests b) (sym e))

-- past them, the test of the edition decides
pub edition_decides : (b : Book) → None ≡ phase_refusal false (view b)
    → refusal (view b) (change convert) ≡ cond (eqb b.edition 2014 && has_expanded (view b).groups) (Some group_expanded) None
unfolding refusal tests conversion_tests view view_common
edition_decides b e =
    decided_late (view b) _ (edition_tests b) (sym e)
    ∙ ap (λ n. cond (eqb n 2014 && has_expanded (view b).groups) (Some group_expanded) None) (edition_is b (passed (view b) _ (sym e)).sound)

pub levels_decide : (b : Book) → length b.standings ≡ group_count → None ≡ phase_refusal false (view b)
    → refusal (view b) (change convert) ≡ cond (eqb b.edition 2014 && list_any (λ (s : Standing). is_set s.expanded) b.standings) (Some group_expanded) None
levels_decide b long e = edition_decides b e ∙ ap (λ x. cond (eqb b.edition 2014 && x) (Some group_expanded) None) (expanded_is b long)

-- ---- the book after it
pub converted_view : (b : Book) → is_sound (view b) ≡ true → view (with_2023 b) ≡ next (view b) convert
unfolding next_common next_group view_common view_group view_product edition_in is_book opened_in
converted_view b sound = next-view b (with_2023 b) convert (rw (book_sound b sound)) (λ g l. refl)

pub stays : (b : Book) → b.edition ≡ 2023 → with_2023 b ≡ b
stays b e = rw (← e)
