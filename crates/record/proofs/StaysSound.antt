-- A founded Record is sound and stays so, whatever is called: no call of a list answers 1.
use mathlib.Core.Path.{◌≡◌, refl}
use mathlib.Core.Bool.{true, not}
use mathlib.Core.List.{List, [], ◌∷◌}
use Rattle.std.specs.Prelude.{None}
use borrow.Author.Tests.{not-false}
use lib.Dec.{eqb}
use lib.ListN.{length}
use Rattle.grain.specs.Lists.{◌and◌, every}
use Rattle.grain.proofs.Tests.{and_right, both}
use Rattle.grain.proofs.Every.{every_map}
use Rattle.grain.specs.Refusals.{unfit_amount}
use Rattle.record.specs.Refusals.{when, unsound, unknown_edition}
use Rattle.record.specs.Edition.{is_edition}
use Rattle.record.specs.State.{Record, group_table}
use Rattle.record.specs.Founding.{Start, are_fit, founding_refusal, found_product, found_group, founded}
use Rattle.record.specs.Sound.{is_sound_group, is_sound_date, is_sound}
use Rattle.record.specs.Record.{Change, Call, change, tests, refusal, answer, next, respond, state_after, answers}
use Rattle.record.specs.Theorems.{is_refusal}
use Rattle.record.proofs.Cleared.{cleared, accepted_clear, not_returned}
use Rattle.record.proofs.TestNumbers.{other_tests}
use Rattle.record.proofs.Lasting.{call_keeps, list_keeps}
use Rattle.record.proofs.SoundGroups.{found_group_lem}
use Rattle.record.proofs.SoundCalls.{facts_sound, accepted_sound}

pub founded_sound : (s : Start) → founding_refusal s ≡ None → is_sound (founded s) ≡ true
unfolding ◌and◌ every are_fit founding_refusal group_table founded found_group found_product is_sound_date
founded_sound s t =
    let k = cleared (when (not (is_edition s.edition)) unknown_edition ∷ when (not (are_fit s.limits)) unfit_amount ∷ []) t in
    facts_sound _
    record {
      edition = not-false _ k.0;
      date = refl;
      groups = every_map _ (found_group s) (is_sound_group s.edition) (found_group_lem s) group_table (and_right (eqb (length s.limits) 8) _ (not-false _ k.1.0));
      resting = refl;
      lasts = refl;
    }

change_sound : (r : Record) (c : Change) → refusal r (change c) ≡ None → is_sound r ≡ true → is_sound (next r c) ≡ true
change_sound r c e t = accepted_sound r c (accepted_clear r (change c) e).1 t

pub respond_sound : (r : Record) (c : Call) → is_sound r ≡ true → is_sound (respond r c).state ≡ true
respond_sound = call_keeps (λ r. is_sound r ≡ true) change_sound

pub always_sound : (r : Record) (cs : List Call) → is_sound r ≡ true → is_sound (state_after r cs) ≡ true
always_sound = list_keeps (λ r. is_sound r ≡ true) change_sound

respond-not-unsound : (r : Record) (c : Call) → is_sound r ≡ true → not (is_refusal unsound (respond r c).answer) ≡ true
unfolding respond refusal
respond-not-unsound r c t = rw t (not_returned unsound (answer r c) (tests r c) (other_tests unsound refl r c))

pub never_unsound_lem : (r : Record) (cs : List Call) → is_sound r ≡ true
    → every (λ a. not (is_refusal unsound a)) (answers r cs) ≡ true
unfolding every answers
never_unsound_lem r [] t = refl
never_unsound_lem r (c ∷ cs) t = both _ _ (respond-not-unsound r c t) (never_unsound_lem (respond r c).state cs (respond_sound r c t))
