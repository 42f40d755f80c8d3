-- The edition of a book after a list; under 2014 no group is marked, and none is raised.
use Prim.Native.Nat.{ℕ}
use mathlib.Core.Path.{◌≡◌, refl}
use mathlib.Core.Bool.{Bool, true, false, not, ◌&&◌, ◌||◌, cond}
use mathlib.Core.List.{List, [], ◌∷◌, map}
use Rattle.std.specs.Prelude.{Option, Some, None}
use native.Mathlib.Omega.{arith}
use Rattle.std.specs.List.{list_any}
use Rattle.grain.specs.Lists.{every}
use Rattle.grain.proofs.Tests.{and_left, and_right, both}
use Rattle.record.specs.Choices.{keep, concat_map}
use Rattle.record.specs.State.{Level, initial, expanded, Group, Common, Record}
use Rattle.record.specs.Move.{Move}
use Rattle.record.specs.Edition.{Conditions, conditions_of}
use Rattle.record.specs.Founding.{Start, founding_refusal, founded}
use Rattle.record.specs.End.{Lead, Quiet, Triggered, Held, Reverted, leading, led_by, triggering, event_of, group_event, is_raised}
use Rattle.record.specs.Sound.{is_expanded, is_sound_group, is_sound}
use Rattle.record.specs.Record.{Change, end, convert, check, Call, change, question, Accepted, accepted, refusal, answer, next_common, next, answer_by, respond, state_after, answers}
use Rattle.record.specs.History.{Entry, a_day, a_conversion}
use Rattle.record.specs.Replay.{common_after, replay}
use Rattle.record.specs.Theorems.{after, history_of, has_raised, is_conversion}
use Rattle.record.proofs.Replayed.{replayed}
use Rattle.record.proofs.SoundCalls.{facts}
use Rattle.record.proofs.Lasting.{list_keeps}
use Rattle.record.proofs.StaysSound.{founded_sound, respond_sound}

-- ---- of the edition of its founding, or of 2023 after a conversion
edition-by : (es : List Entry) (c : Common) → (common_after es c).edition ≡ cond (list_any is_conversion es) 2023 c.edition
edition-by [] c = refl
edition-by (a_day k ∷ es) c = edition-by es c
edition-by (a_conversion ∷ es) c = refl

pub edition_after_lem : (s : Start) (cs : List Call)
    → (after s cs).common.edition ≡ cond (list_any is_conversion (history_of s cs)) 2023 s.edition
unfolding replay founded
edition_after_lem s cs = rw (replayed s cs) (edition-by (history_of s cs) (founded s).common)

-- ---- a Record of 2014 was so before every call
next_before : (r : Record) (c : Change) → (next r c).common.edition ≡ 2014 → r.common.edition ≡ 2014
unfolding next next_common
next_before r convert e = let z : ◌≡◌ {A = ℕ} 2023 2014 = e in absurd (omega arith)
next_before r c e = e

list_before : (r : Record) (cs : List Call) → (state_after r cs).common.edition ≡ 2014 → r.common.edition ≡ 2014
list_before r cs =
    list_keeps (λ t. t.common.edition ≡ 2014 → r.common.edition ≡ 2014) (λ t c n before e. before (next_before t c e)) r cs (λ e. e)

-- ---- a group with no mark is not raised
unmarked_event : (k : Conditions) (l : Level) (mss : List (List Move)) → is_raised (event_of k l false mss) ≡ false
unfolding event_of
unmarked_event k initial mss = go (leading (concat_map (triggering k) mss))
  where
    go : (o : Option Lead) → is_raised (led_by o Triggered Quiet) ≡ false
    go None = refl
    go (Some l) = refl
unmarked_event k expanded mss = go (leading (concat_map (keep k.is_holding) mss))
  where
    go : (o : Option Lead) → is_raised (led_by o Held Reverted) ≡ false
    go None = refl
    go (Some l) = refl

-- ---- under 2014 no sound group has a mark
unmarked : (m x : Bool) → not m || (x && false) ≡ true → m ≡ false
unmarked true true t = cc
unmarked true false t = cc
unmarked false x t = refl

not_raised_lem : (c : Common) (g : Group) → c.edition ≡ 2014 → is_sound_group c.edition g ≡ true → is_raised (group_event c g) ≡ false
unfolding is_sound_group group_event conditions_of
not_raised_lem c g e t =
    let s : is_sound_group 2014 g ≡ true = rw e at t in
    let m : g.mark ≡ false = unmarked g.mark (is_expanded g.level) (and_left _ _ s) in
    rw m (unmarked_event _ g.level _)

none_raised : (c : Common) (gs : List Group) → c.edition ≡ 2014 → every (is_sound_group c.edition) gs ≡ true
    → list_any is_raised (map (group_event c) gs) ≡ false
unfolding every
none_raised c [] e t = refl
none_raised c (g ∷ gs) e t = rw (not_raised_lem c g e (and_left _ _ t), none_raised c gs e (and_right _ _ t))

-- ---- from one call to a list
own_answer : (r : Record) (c : Call) → is_sound r ≡ true → r.common.edition ≡ 2014 → not (has_raised (accepted (answer r c))) ≡ true
unfolding answer
own_answer r (change end) t e = rw (none_raised r.common r.groups e (facts r t).groups)
own_answer r (change c) t e = refl
own_answer r (question (check p size month price)) t e = refl

answered : (o : Option ℕ) (a : Accepted) → not (has_raised (accepted a)) ≡ true → not (has_raised (answer_by o a)) ≡ true
answered (Some n) a t = refl
answered None a t = t

none_raises : (r : Record) (cs : List Call) → is_sound r ≡ true → (state_after r cs).common.edition ≡ 2014
    → every (λ a. not (has_raised a)) (answers r cs) ≡ true
unfolding every answers respond state_after
none_raises r [] t e = refl
none_raises r (c ∷ cs) t e =
    both _ _ (answered (refusal r c) (answer r c) (own_answer r c t (list_before r (c ∷ cs) e)))
    (none_raises (respond r c).state cs (respond_sound r c t) e)

pub never_raised_lem : (s : Start) → founding_refusal s ≡ None → (cs : List Call) → (after s cs).common.edition ≡ 2014
    → every (λ a. not (has_raised a)) (answers (founded s) cs) ≡ true
never_raised_lem s f cs e = none_raises (founded s) cs (founded_sound s f) e
