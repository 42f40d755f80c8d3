-- The first two tests of a call, before its own: what refuses by them, and what has passed them.
use Rattle.std.proofs.Common.{ℕ, ◌≡◌, refl, Bool, true, false, List, [], ◌∷◌}
use mathlib.Core.Bool.{beq}
use Rattle.std.specs.Prelude.{not, Option, Some, None}
use Rattle.record.specs.Refusals.{Test, when, first, unsound, wrong_phase}
use Rattle.record.specs.State.{Record}
use Rattle.record.specs.Sound.{is_sound}
use Rattle.record.specs.Record.{refusal_by}
use Rattle.book.specs.Phase.{phase_refusal}

-- the number with which they refuse is the call's, whatever its other tests
by_two : (sound bad : Bool) (n : ℕ) (ts : List Test)
    → first (when (not sound) unsound ∷ when bad wrong_phase ∷ []) ≡ Some n
    → first (when (not sound) unsound ∷ when bad wrong_phase ∷ ts) ≡ Some n
by_two false bad n ts e = e
by_two true true n ts e = e
by_two true false n ts e = let z : ◌≡◌ {A = Option ℕ} None (Some n) = e in cc

pub refused_early : (r : Record) (bad : Bool) (n : ℕ) (ts : List Test) → refusal_by r (when bad wrong_phase ∷ []) ≡ Some n
    → refusal_by r (when bad wrong_phase ∷ ts) ≡ Some n
refused_early r bad n ts e = by_two (is_sound r) bad n ts e

pub record Passes (r : Record) (bad : Bool) : Type 0 where
  pub sound : is_sound r ≡ true
  pub phase : bad ≡ false

passed_two : (sound bad : Bool) → first (when (not sound) unsound ∷ when bad wrong_phase ∷ []) ≡ None → (sound ≡ true) × (bad ≡ false)
passed_two true false e = (refl, refl)
passed_two false bad e = let z : ◌≡◌ {A = Option ℕ} (Some unsound) None = e in cc
passed_two true true e = let z : ◌≡◌ {A = Option ℕ} (Some wrong_phase) None = e in cc

pub passed : (r : Record) (bad : Bool) → refusal_by r (when bad wrong_phase ∷ []) ≡ None → Passes r bad
passed r bad e = let p = passed_two (is_sound r) bad e in record { sound = p.0; phase = p.1 }

-- and then its other tests decide
pub decided_late : (r : Record) (bad : Bool) (ts : List Test) → refusal_by r (when bad wrong_phase ∷ []) ≡ None
    → refusal_by r (when bad wrong_phase ∷ ts) ≡ first ts
decided_late r bad ts e = let p = passed r bad e in rw (p.sound, p.phase)

-- ---- the two tests of a sound book, by the phase that a call asks for
other : (is_open : Bool) (r : Record) → is_sound r ≡ true → (o : Bool) → r.common.is_open ≡ o → not (beq o is_open) ≡ true
    → phase_refusal is_open r ≡ Some wrong_phase
other true r t false e d = rw (t, e)
other false r t true e d = rw (t, e)
other true r t true e d = let z : ◌≡◌ {A = Bool} false true = d in cc
other false r t false e d = let z : ◌≡◌ {A = Bool} false true = d in cc

pub other_phase : (is_open : Bool) (r : Record) → is_sound r ≡ true → not (beq r.common.is_open is_open) ≡ true → phase_refusal is_open r ≡ Some wrong_phase
other_phase is_open r t d = other is_open r t r.common.is_open refl d

own : (is_open : Bool) (r : Record) → is_sound r ≡ true → (o : Bool) → r.common.is_open ≡ o → not (beq o is_open) ≡ false
    → phase_refusal is_open r ≡ None
own true r t true e d = rw (t, e)
own false r t false e d = rw (t, e)
own true r t false e d = let z : ◌≡◌ {A = Bool} true false = d in cc
own false r t true e d = let z : ◌≡◌ {A = Bool} true false = d in cc

pub own_phase : (is_open : Bool) (r : Record) → is_sound r ≡ true → not (beq r.common.is_open is_open) ≡ false → phase_refusal is_open r ≡ None
own_phase is_open r t d = own is_open r t r.common.is_open refl d

pub unsound_phase : (is_open : Bool) (r : Record) → is_sound r ≡ false → phase_refusal is_open r ≡ Some unsound
unsound_phase true r t = rw t
unsound_phase false r t = rw t
