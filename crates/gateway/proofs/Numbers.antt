-- A refusal's number is returned by what is refused with it, and by no other answer.
use Prim.Native.Nat.{ℕ, ◌<◌}
use mathlib.Core.Path.{◌≡◌, refl}
use native.Mathlib.Omega.{arith}
use lib.Dec.{eqb}
use borrow.Author.Tests.{ne_eqb}
use Rattle.grain.specs.declared.check.Verdict.TheVariants.{Free, Within, Below, Above}
use Rattle.record.specs.Record.{checked, Answer, refused, accepted}
use Rattle.record.specs.Theorems.{is_refusal}
use Rattle.std.specs.Prelude.{Bool, true, false, not, [], ◌∷◌, None, unwrap_or}
use Rattle.grain.specs.Refusals.{unfit_amount}
use Rattle.record.specs.Refusals.{when, first, unknown_edition}
use Rattle.record.specs.Edition.{is_edition}
use Rattle.record.specs.Founding.{Start, are_fit, founding_refusal}
use Rattle.gateway.specs.Calls.{answer_number}

-- 0 is an accepted call's, and those from 100 on are verdicts'
pub number_of : (n : ℕ) → 0 < n → n < 100 → (a : Answer) → eqb (answer_number a) n ≡ is_refusal n a
number_of n l h (refused m) = refl
number_of n l h (accepted (checked Free)) = ne_eqb 100 n (omega arith)
number_of n l h (accepted (checked (Within s))) = ne_eqb 101 n (omega arith)
number_of n l h (accepted (checked (Below s))) = ne_eqb 102 n (omega arith)
number_of n l h (accepted (checked (Above s))) = ne_eqb 103 n (omega arith)
number_of n l h (accepted a) = ne_eqb 0 n (omega arith)

-- a founding's number is 0 only where it is accepted
pub accepted_by : (s : Start) → 0 ≡ unwrap_or (founding_refusal s) 0 → founding_refusal s ≡ None
unfolding founding_refusal
accepted_by s e = go (not (is_edition s.edition)) (not (are_fit s.limits)) e
  where
    go : (a b : Bool) → 0 ≡ unwrap_or (first (when a unknown_edition ∷ when b unfit_amount ∷ [])) 0
        → first (when a unknown_edition ∷ when b unfit_amount ∷ []) ≡ None
    go true b h = absurd (omega arith)
    go false true h = absurd (omega arith)
    go false false h = refl
