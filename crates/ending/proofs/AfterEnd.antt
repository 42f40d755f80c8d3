-- What an ended day leaves shows the Record's end.
use Prim.Native.Nat.{ℕ, ◌<◌}
use mathlib.Core.Path.{◌≡◌, refl, sym, ◌∙◌, ap}
use mathlib.Core.Bool.{Bool, true, false, ◌&&◌}
use mathlib.Core.List.{List, map}
use lib.ListN.{get_or}
use borrow.Author.Tests.{ltb-true, eqb-true}
use Rattle.std.specs.List.{list_any}
use Rattle.grain.specs.Products.{product_count}
use Rattle.grain.proofs.Tests.{and_left, and_right}
use Rattle.record.specs.declared.Day.{Day}
use Rattle.record.specs.declared.Event.{Event}
use Rattle.record.specs.declared.Event.TheVariants.{Quiet, Triggered, Held, Reverted, Raised}
use Rattle.record.specs.State.{Product, Group, group_table, group_count, group_of, day_of, trade_date}
use Rattle.record.specs.Edition.{conditions_of}
use Rattle.record.specs.Move.{Move, is_at_expanded, group_moves}
use Rattle.record.specs.End.{group_event, event_of, level_after, mark_after, end_product, end_group}
use Rattle.record.specs.Sound.{is_expanded}
use Rattle.record.specs.Record.{end, change, ended, answer, next, next_common, next_group}
use Rattle.record.specs.History.{products_of}
use Rattle.record.proofs.GroupTable.{is_member, members}
use Rattle.book.specs.declared.Book.{Book}
use Rattle.book.specs.Book.{flag_word, is_set, edition_in, opened_in, standing_in, level_of, view_product, view_group, view_groups, view_common, view}
use Rattle.book.specs.Numbers.{all_groups}
use Rattle.book.proofs.Numbers.{value_at}
use Rattle.std.proofs.lemmas.Simd.{map-map}
use Rattle.book.proofs.Views.{shown_group, groups_are, same_groups, products_view, next-view}
use Rattle.ending.specs.Lead.{moves_of}
use Rattle.ending.specs.Ends.{quiet, event_in, standing_of_end}

-- the day that the Record ends
abbrev pub today : Book → Day
today b = day_of (view_common b)

-- the moves of some products on that day
abbrev pub moves_today : Book → List ℕ → List (List Move)
moves_today b ps = moves_of b (trade_date (today b)) ps

abbrev pub event_today : Book → ℕ → Event
event_today b g = event_in b (trade_date (today b)) g

-- what is left, field by field
pub record Leaves (b z : Book) (es : List Event) : Type 0 where
  pub events : es ≡ map (event_today b) all_groups
  pub standings : (g : ℕ) → g < group_count
      → standing_in z g ≡ standing_of_end b (trade_date (today b)) es g
  pub products : (p : ℕ) → p < product_count
      → view_product z p ≡ end_product (today b) (get_or es (group_of p) quiet) (view_product b p)
  pub edition : edition_in z ≡ edition_in b
  pub opened : opened_in z ≡ opened_in b
  pub is_open : is_set z.is_open ≡ false

-- the event of a group under an edition
abbrev event_under : ℕ → Book → ℕ → List ℕ → Event
event_under edition b g ps =
    event_of (conditions_of edition) (level_of (is_set (standing_in b g).expanded)) (is_set (standing_in b g).marked) (moves_today b ps)

-- what an end makes of a group
abbrev group_after : Bool → Day → Event → List (List Move) → List Product → Group
group_after marks d e mss qs =
    record { level = level_after e; mark = mark_after e (marks && list_any (list_any is_at_expanded) mss); products = map (end_product d e) qs }

-- and of its group
abbrev group_under : ℕ → Book → ℕ → List ℕ → Group
group_under edition b g ps =
    group_after (conditions_of edition).has_marks (today b) (event_under edition b g ps) (moves_today b ps) (map (view_product b) ps)

-- the edition that a book shows is its own
module _ (b : Book) (own : edition_in b ≡ b.edition) where
  -- the event of a group as it is shown
  event_is : (g : ℕ) (ps : List ℕ) → group_event (view_common b) (view_group b g ps) ≡ event_under b.edition b g ps
  unfolding group_event group_moves moves_of view_group view_common
  event_is g ps = ap (λ n. event_under n b g ps) own

  events_are : map (group_event (view_common b)) (view_groups b 0 group_table) ≡ map (event_today b) all_groups
  events_are =
      ap (map (group_event (view_common b))) (groups_are b)
      ∙ map-map (group_event (view_common b)) (shown_group b) all_groups
      ∙ same_groups (λ g. group_event (view_common b) (shown_group b g)) (event_today b) (λ g l. event_is g (products_of g))

  group_after_lem : (g : ℕ) → end_group (view_common b) (view_group b g (products_of g)) ≡ group_under b.edition b g (products_of g)
  unfolding end_group group_event group_moves moves_of view_group view_common
  group_after_lem g = ap (λ n. group_under n b g (products_of g)) own

set_flag : (x : Bool) → is_set (flag_word x) ≡ x
set_flag true = refl
set_flag false = refl

level_of_lem : (e : Event) → level_of (is_set (flag_word (is_expanded (level_after e)))) ≡ level_after e
level_of_lem Quiet = refl
level_of_lem (Triggered l) = refl
level_of_lem (Held l) = refl
level_of_lem Reverted = refl
level_of_lem (Raised l) = refl

module _ (b z : Book) (es : List Event) (own : edition_in b ≡ b.edition) (after : Leaves b z es) where
  event_at : (g : ℕ) → g < group_count → get_or es g quiet ≡ event_today b g
  event_at g l = ap (λ (l : List Event). get_or l g quiet) after.events ∙ value_at quiet (event_today b) group_count g l

  group_shown : (g : ℕ) → g < group_count → view_group z g (products_of g) ≡ end_group (view_common b) (view_group b g (products_of g))
  unfolding view_group
  group_shown g l =
      let e = event_today b g in
      let products = products_view b z (end_product (today b) e) (is_member g) (λ p t. after.products p (ltb-true _ _ (and_left _ _ t)) ∙ ap (λ (e : Event). end_product (today b) e (view_product b p)) (ap (λ (g : ℕ). get_or es g quiet) (eqb-true _ _ (and_right _ _ t)) ∙ event_at g l)) (products_of g) (members g l) in
      let marked = (conditions_of b.edition).has_marks && list_any (list_any is_at_expanded) (moves_today b (products_of g)) in
      sym (group_after_lem b own g ∙ sym (rw (after.standings g l, event_at g l, level_of_lem e, set_flag (mark_after e marked), products)))

  pub end_answer : ended es ≡ answer (view b) (change end)
  unfolding answer view
  end_answer = ap ended (after.events ∙ sym (events_are b own))

  pub end_view : view z ≡ next (view b) end
  unfolding view_common next_common next_group
  end_view = next-view b z end (rw (after.edition, after.opened, after.is_open)) group_shown
