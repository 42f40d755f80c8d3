-- The contracts that a loop over two lists together has put.
use Rattle.std.proofs.Common.{◌≡◌, refl, sym, subst, ap, ap₂, ℕ, ◌+◌, zero, suc, List, [], ◌∷◌, map, take, Option, None}
use Rattle.std.specs.Iterator.{Yields, AlwaysYields}
use Rattle.std.specs.List.{enumerate_from, zip}
use Rattle.record.specs.declared.Contract.{Contract}
use Rattle.record.specs.Sheet.{contracts}

-- a loop that ran to the end had all items
pub all_yielded : {S A B : Type 0} (steps : S → Option A → S → Type 0) (v : A → B) (s t u : S) (xs : List A) (ys : List B)
    → Yields steps s xs t → steps t None u → AlwaysYields steps v s ys → map v xs ≡ ys
all_yielded steps v s t u [] [] y e a = refl
all_yielded steps v s t u [] (b ∷ ys) y e a = absurd (a.0 u (subst (λ r. steps r None u) (sym y) e))
all_yielded steps v s t u (x ∷ xs) [] y e a = absurd (a x y.0 y.1)
all_yielded steps v s t u (x ∷ xs) (b ∷ ys) y e a =
    let h = a.1 x y.0 y.1 in ap₂ ◌∷◌ h.0 (all_yielded steps v y.0 t u xs ys y.2 e h.1)

abbrev pub contract_of : ℕ × (ℕ × ℕ) → Contract
contract_of q = record { month = q.1.0; settlement = q.1.1 }

pub pairs_are : (k n : ℕ) (ms ss : List ℕ) → map contract_of (enumerate_from k (take n (zip ms ss))) ≡ take n (contracts ms ss)
pairs_are k zero ms ss = refl
pairs_are k (suc n) [] ss = refl
pairs_are k (suc n) (m ∷ ms) [] = refl
pairs_are k (suc n) (m ∷ ms) (s ∷ ss) = ap (record { month = m; settlement = s } ∷◌) (pairs_are (k + 1) n ms ss)
