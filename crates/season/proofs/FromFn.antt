-- The elements of an array that `array::from_fn` made by a closure that stays as it is.
use Rattle.std.proofs.Common.{◌≡◌, ◌+◌, ◌<◌, ◌≤◌, arith, ℕ, zero, suc, List, get_or, subst, ◌∙◌}
use Rattle.std.specs.Array.{IsFromFnResultFrom}
use Rattle.std.specs.Fn.{Called}
use Rattle.std.proofs.Math.Nat.{eq-or-lt_of_le}
use mathlib.Core.Logic.{⊎_elim}
use denote.Param.Members.{Mut}

module _ {F : Type 0} (g : Mut F (ℕ × Unit {0}) ℕ) (f : F) (value : ℕ → ℕ) (upto : ℕ)
    (each : (i r : ℕ) (f' : F) → i < upto → Called g f (i, tt) r f' → (r ≡ value i) × (f' ≡ f)) where
  pub made_from : (ys : List ℕ) (i n : ℕ) → i + n ≡ upto → IsFromFnResultFrom g f ys i n → (k : ℕ) → i ≤ k → k < upto → get_or ys k 0 ≡ value k
  made_from ys i zero e h k a b = absurd (omega arith)
  made_from ys i (suc n) e h k a b =
      let here = each i h.1 h.0 (omega arith) h.3 in
      ⊎_elim
      (λ same. subst (λ j. get_or ys j 0 ≡ value j) same (h.2.1 0 ∙ here.0))
      (λ more. made_from ys (i + 1) n (omega arith) (subst (λ q. IsFromFnResultFrom g q ys (i + 1) n) here.1 h.4) k (omega arith) b)
      (eq-or-lt_of_le a)
