-- A tally that takes one more check is sound, and not full.
use Prim.Native.Nat.{ℕ}
use mathlib.Core.Path.{◌≡◌, refl}
use mathlib.Core.Bool.{Bool, true, false, not, cond}
use lib.Dec.{eqb}
use borrow.Author.Tests.{eqb-true, eqb-false}
use Rattle.std.specs.Prelude.{Option, Some, None, is_some}
use Rattle.std.specs.Option.{option_map}
use Rattle.grain.specs.Refusals.{unsound, number_of}
use Rattle.grain.specs.declared.refusals.Refusal.{Refusal}
use Rattle.tally.specs.declared.Tally.{Tally}
use Rattle.tally.specs.Tally.{sum_of, is_sound_tally, is_full, tally_full, tally_refusal, takes}

pub record Takes (t : Tally) : Type 0 where
  pub sound : t.asked ≡ sum_of t
  pub room : t.asked ≡ 4294967295 → ⊥

pub taking : (t : Tally) → takes t ≡ true → Takes t
unfolding tally_refusal is_sound_tally is_full
taking t e = go (eqb t.asked (sum_of t)) (eqb t.asked 4294967295) refl refl e
  where
    go : (x y : Bool) → eqb t.asked (sum_of t) ≡ x → eqb t.asked 4294967295 ≡ y
        → not (is_some (cond (not x) (Some unsound) (cond y (Some tally_full) None))) ≡ true → Takes t
    go true false p q h = record { sound = eqb-true _ _ p; room = eqb-false _ _ q }
    go true true p q h = cc
    go false y p q h = cc

-- r is the code's refusal, and o its number: both are there, or neither
pub takes_by : (r : Option Refusal) (o : Option ℕ) → option_map number_of r ≡ o → not (is_some o) ≡ not (is_some r)
takes_by None o e = rw (← e)
takes_by (Some r) o e = rw (← e)
