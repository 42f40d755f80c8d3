-- What the search is asked under an edition finds what the rule's conditions of that edition do.
use Prim.Native.Nat.{ℕ}
use mathlib.Core.Path.{◌≡◌, refl}
use mathlib.Core.Bool.{Bool, true, false, cond}
use mathlib.Core.List.{List}
use lib.Dec.{eqb}
use Rattle.record.specs.Choices.{keep, concat_map}
use Rattle.record.specs.Move.{Move}
use Rattle.record.specs.Edition.{of2014, of2023, conditions_of}
use Rattle.record.specs.End.{leading, triggering}
use Rattle.ending.specs.declared.lead.condition.Condition.TheVariants.{OneAtInitial, TwoAtInitial, AtLeastInitial, AtExpanded}
use Rattle.ending.specs.Lead.{lead_for, trigger_of, holding_of}

module _ (edition : ℕ) (mss : List (List Move)) where
  pub trigger_is : lead_for (trigger_of edition) mss ≡ leading (concat_map (triggering (conditions_of edition)) mss)
  unfolding conditions_of
  trigger_is = go (eqb edition 2014)
    where
      go : (x : Bool)
          → lead_for (cond x TwoAtInitial OneAtInitial) mss ≡ leading (concat_map (triggering (cond x of2014 of2023)) mss)
      go true = refl
      go false = refl

  pub holding_is : lead_for (holding_of edition) mss ≡ leading (concat_map (keep (conditions_of edition).is_holding) mss)
  unfolding conditions_of
  holding_is = go (eqb edition 2014)
    where
      go : (x : Bool)
          → lead_for (cond x AtExpanded AtLeastInitial) mss ≡ leading (concat_map (keep (cond x of2014 of2023).is_holding) mss)
      go true = refl
      go false = refl
