-- The settlement of a month is that of the first contract that has it.
use Rattle.std.proofs.Common.{◌≡◌, refl, ℕ, Bool, true, false, List, [], ◌∷◌, cond, eqb, Option, Some}
use Rattle.std.specs.Option.{option_map}
use Rattle.std.specs.List.{find}
use Rattle.record.specs.declared.Contract.{Contract}
use Rattle.record.specs.State.{settlement_on}

pub found_is : (cs : List Contract) (month : ℕ) → option_map (λ (c : Contract). c.settlement) (find (λ (c : Contract). eqb c.month month) cs) ≡ settlement_on cs month
found_is [] month = refl
found_is (c ∷ cs) month = go (eqb c.month month) (find (λ (d : Contract). eqb d.month month) cs) (found_is cs month)
  where
    go : {on : Option ℕ} (b : Bool) (found : Option Contract) → option_map (λ (d : Contract). d.settlement) found ≡ on
        → option_map (λ (d : Contract). d.settlement) (cond b (Some c) found) ≡ cond b (Some c.settlement) on
    go true found e = refl
    go false found e = e
