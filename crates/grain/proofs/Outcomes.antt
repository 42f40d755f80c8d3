-- Back from what the rule says to the result of a margin call: two results that say the same are the same.
use Rattle.std.proofs.Common.{◌≡◌, refl, sym, ◌∙◌, ap, ℕ, List, get_or, Result, Ok, Err}
use Rattle.grain.specs.Margin.{Outcome, refused, gives, outcome_of, expanded_limit_as, season_limits_as, date_facts_as}
use Rattle.grain.specs.declared.amounts.Limit.{Limit}
use Rattle.grain.specs.declared.margin.DateFacts.{DateFacts}
use Rattle.grain.specs.declared.refusals.Refusal.{Refusal}
use Rattle.grain.proofs.RefusalNumbers.{refusal_numbered, numbered_back}

module _ {A : Type 0} (f : A → List ℕ) (value_in : List ℕ → A) (back : (a : A) → value_in (f a) ≡ a) where
  -- the result that says this
  abbrev result_from : Outcome → Result A Refusal
  result_from (refused n) = Err (refusal_numbered n)
  result_from (gives values) = Ok (value_in values)

  result_back : (r : Result A Refusal) → result_from (outcome_of f r) ≡ r
  result_back (Ok a) = ap Ok (back a)
  result_back (Err r) = ap Err (numbered_back r)

  pub outcome_same : (r s : Result A Refusal) → outcome_of f r ≡ outcome_of f s → r ≡ s
  outcome_same r s e = sym (result_back r) ∙ ap result_from e ∙ result_back s

pub expanded_limit_same : (r s : Result ℕ Refusal) → expanded_limit_as r ≡ expanded_limit_as s → r ≡ s
expanded_limit_same r s e = outcome_same _ (λ values. get_or values 0 0) (λ a. refl) r s e

pub season_limits_same : (r s : Result Limit Refusal) → season_limits_as r ≡ season_limits_as s → r ≡ s
season_limits_same r s e =
    outcome_same _ (λ values. record { initial = get_or values 0 0; expanded = get_or values 1 0 }) (λ a. refl) r s e

pub date_facts_same : (r s : Result DateFacts Refusal) → date_facts_as r ≡ date_facts_as s → r ≡ s
date_facts_same r s e =
    outcome_same
    _
    (λ values. record { month = get_or values 0 0; season = get_or values 1 0; remaining = get_or values 2 0 })
    (λ a. refl)
    r
    s
    e
