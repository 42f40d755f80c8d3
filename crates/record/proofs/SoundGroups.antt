-- A group stays sound: its products do, and a mark stands only on an expanded group of an edition that has marks.
use Prim.Native.Nat.{ℕ}
use mathlib.Core.Path.{◌≡◌, refl}
use mathlib.Core.Bool.{Bool, true, false, not, ◌&&◌, ◌||◌, cond}
use mathlib.Core.List.{List}
use Rattle.std.specs.Prelude.{Some}
use Rattle.std.specs.List.{list_any}
use Rattle.grain.specs.Lists.{every}
use Rattle.grain.specs.Amounts.{is_fit_founding}
use Rattle.grain.proofs.Tests.{and_left, and_right, both}
use Rattle.grain.proofs.Every.{every_map}
use Rattle.record.specs.State.{Day, Sheet, Level, initial, Group, Common, day_of}
use Rattle.record.specs.Founding.{Start, limit_of, found_product, found_group}
use Rattle.record.specs.Opening.{has_new_limits, open_product, open_group}
use Rattle.record.specs.Sheet.{file_product, file_group}
use Rattle.record.specs.Edition.{conditions_of}
use Rattle.record.specs.Move.{is_at_expanded, group_moves}
use Rattle.record.specs.End.{Event, Quiet, Triggered, Held, Reverted, Raised, level_after, mark_after, group_event, end_product, end_group}
use Rattle.record.specs.Sound.{is_sound_sheet, is_sound_product, is_expanded, is_sound_group}
use Rattle.record.proofs.SoundProducts.{found_sound, open_sound, file_sound, end_sound}

pub found_group_lem : (s : Start) (ps : List ℕ) → every (λ p. is_fit_founding p (limit_of s p)) ps ≡ true
    → is_sound_group s.edition (found_group s ps) ≡ true
unfolding is_sound_group found_group
found_group_lem s ps t = both _ _ refl (every_map _ (found_product s) is_sound_product (found_sound s) ps t)

marked_at_opening : (renewed : Bool) (l : Level) (m marks : Bool) → not m || (is_expanded l && marks) ≡ true
    → not (cond renewed false m) || (is_expanded (cond renewed initial l) && marks) ≡ true
marked_at_opening true l m marks t = refl
marked_at_opening false l m marks t = t

pub open_group_lem : (c : Common) (d : Day) (g : Group) → is_sound_group c.edition g ≡ true
    → is_sound_group c.edition (open_group c d g) ≡ true
unfolding is_sound_group open_group
open_group_lem c d g t =
    both _ _ (marked_at_opening (has_new_limits c d g) g.level g.mark _ (and_left _ _ t))
    (every_map _ (open_product c d) is_sound_product (open_sound c d) g.products (and_right _ _ t))

pub file_group_lem : (edition p : ℕ) (s : Sheet) → is_sound_sheet p (Some s) ≡ true → (g : Group) → is_sound_group edition g ≡ true
    → is_sound_group edition (file_group p s g) ≡ true
unfolding is_sound_group file_group
file_group_lem edition p s u g t =
    both _ _ (and_left _ _ t) (every_map _ (file_product p s) is_sound_product (file_sound p s u) g.products (and_right _ _ t))

marked_expanded : (e : Event) (marks b : Bool) → not (mark_after e (marks && b)) || (is_expanded (level_after e) && marks) ≡ true
marked_expanded Quiet marks b = refl
marked_expanded (Triggered l) marks b = refl
marked_expanded (Held l) true true = refl
marked_expanded (Held l) true false = refl
marked_expanded (Held l) false b = refl
marked_expanded Reverted marks b = refl
marked_expanded (Raised l) marks b = refl

pub end_group_lem : (c : Common) (g : Group) → is_sound_group c.edition g ≡ true → is_sound_group c.edition (end_group c g) ≡ true
unfolding is_sound_group end_group
end_group_lem c g t =
    let d = day_of c in
    let e = group_event c g in
    both _ _ (marked_expanded e (conditions_of c.edition).has_marks (list_any (list_any is_at_expanded) (group_moves d g)))
    (every_map _ (end_product d e) is_sound_product (end_sound d e) g.products (and_right _ _ t))

-- 2023 has marks, so that the marks of any edition are sound in it
may_mark : (m x h : Bool) → not m || (x && h) ≡ true → not m || (x && true) ≡ true
may_mark true true true t = refl
may_mark true true false t = cc
may_mark true false h t = t
may_mark false x h t = refl

pub sound_under2023 : (e : ℕ) (g : Group) → is_sound_group e g ≡ true → is_sound_group 2023 g ≡ true
unfolding is_sound_group conditions_of
sound_under2023 e g t =
    both _ _ (may_mark g.mark (is_expanded g.level) (conditions_of e).has_marks (and_left _ _ t)) (and_right _ _ t)
