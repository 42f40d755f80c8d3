-- The theorems about the Record, proved.
use Prim.Native.Nat.{ℕ}
use mathlib.Core.Path.{◌≡◌}
use mathlib.Core.Bool.{true}
use mathlib.Core.List.{List}
use Rattle.std.specs.Prelude.{None}
use Rattle.record.specs.State.{Record, group_of, group_at}
use Rattle.record.specs.Founding.{Start, founding_refusal, founded}
use Rattle.record.specs.Sound.{is_sound}
use Rattle.record.specs.Record.{check, Call, tests, refusal, answer, respond, ask}
use Rattle.record.specs.History.{SameFor}
use Rattle.record.specs.Theorems.{after, history_of, check_after, Theorems}
use Rattle.record.proofs.Replayed.{replayed}
use Rattle.record.proofs.Independence.{same_day, same_group}
use Rattle.record.proofs.Resending.{resent}
use Rattle.record.proofs.TestNumbers.{never_zero_lem}
use Rattle.record.proofs.StaysSound.{founded_sound, always_sound, never_unsound_lem}
use Rattle.record.proofs.StaysFree.{stays_free}
use Rattle.record.proofs.Editions.{edition_after_lem, never_raised_lem}
use Rattle.record.proofs.Coupled.{together, coupled}

-- a check on a sound Record reads what is common and the product's group
check_reads : (r t : Record) (p size month price : ℕ) → is_sound r ≡ true → is_sound t ≡ true
    → r.common ≡ t.common → group_at r (group_of p) ≡ group_at t (group_of p)
    → ask r (check p size month price) ≡ ask t (check p size month price)
unfolding respond refusal tests answer
check_reads r t p size month price s u c g = rw (s, u, c, g)

stays_sound_lem : (s : Start) → founding_refusal s ≡ None → (cs : List Call) → is_sound (after s cs) ≡ true
stays_sound_lem s f cs = always_sound (founded s) cs (founded_sound s f)

same_checks : (s : Start) → founding_refusal s ≡ None → (g : ℕ) (cs ds : List Call)
    → SameFor g (history_of s cs) (history_of s ds) → (p size month price : ℕ) → group_of p ≡ g
    → check_after s cs p size month price ≡ check_after s ds p size month price
same_checks s f g cs ds same p size month price e =
    check_reads _ _ p size month price (stays_sound_lem s f cs) (stays_sound_lem s f ds) (same_day s g cs ds same)
    (rw e (same_group s g cs ds same))

pub theorems : Theorems
theorems =
    record {
      stays_sound = stays_sound_lem;
      never_unsound = λ s f cs. never_unsound_lem (founded s) cs (founded_sound s f);
      never_zero = never_zero_lem;
      replayed = replayed;
      edition_after = edition_after_lem;
      never_raised = never_raised_lem;
      together = λ s cs. together (after s cs);
      coupled = λ s cs. coupled (after s cs);
      resent = λ s cs. resent (after s cs);
      stays_free = stays_free;
      same_day = same_day;
      same_group = same_group;
      same_checks = same_checks;
    }
