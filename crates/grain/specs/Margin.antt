-- What the margin group's calls answer.
use Rattle.std.specs.Prelude.{ℕ, not, cond, List, [], ◌∷◌, eqb, length, Result, Ok, Err}
use Rattle.grain.specs.Lists.{every}
use Rattle.grain.specs.Products.{is_product}
use Rattle.grain.specs.Prices.{is_settlement}
use Rattle.grain.specs.Dates.{is_date, contract_month, season_number, days_remaining}
use Rattle.grain.specs.Refusals.{no_such_date, no_such_product, misshapen, bad_price, unfit_amount, number_of}
use Rattle.grain.specs.declared.amounts.Limit.{Limit}
use Rattle.grain.specs.declared.margin.DateFacts.{DateFacts}
use Rattle.grain.specs.declared.refusals.Refusal.{Refusal}
use Rattle.grain.specs.Amounts.{window_length, expanded_of, season_of, is_fit_amount}

-- what the rule says to a question: a refusal's number, or the values asked for
pub data Outcome : Type 0 where
  refused : ℕ → Outcome
  gives : List ℕ → Outcome

-- a call's result as the rule says it, where f lists the values of what it gives
abbrev pub outcome_of : {A : Type 0} → (A → List ℕ) → Result A Refusal → Outcome
outcome_of f (Ok a) = gives (f a)
outcome_of f (Err r) = refused (number_of r)

-- ---- E of a product's initial limit
abbrev pub expanded_limit_as : Result ℕ Refusal → Outcome
expanded_limit_as r = outcome_of (λ e. e ∷ []) r

unfoldable pub expanded_limit : ℕ → ℕ → Outcome
expanded_limit p i =
    cond (not (is_product p)) (refused no_such_product)
    (cond (not (is_fit_amount p i)) (refused unfit_amount)
    (gives (expanded_of p i ∷ [])))

-- ---- I and E of a new season
abbrev pub season_limits_as : Result Limit Refusal → Outcome
season_limits_as r = outcome_of (λ (l : Limit). l.initial ∷ l.expanded ∷ []) r

unfoldable pub season_limits : ℕ → List ℕ → Outcome
season_limits p settlements =
    cond (not (is_product p)) (refused no_such_product)
    (cond (not (eqb (length settlements) window_length)) (refused misshapen)
    (cond (not (every (is_settlement p) settlements)) (refused bad_price)
    (gives (season_of p settlements ∷ expanded_of p (season_of p settlements) ∷ []))))

-- ---- a date's contract month, its season's number, and the days remaining in its month
abbrev pub date_facts_as : Result DateFacts Refusal → Outcome
date_facts_as r = outcome_of (λ (f : DateFacts). f.month ∷ f.season ∷ f.remaining ∷ []) r

unfoldable pub date_facts : ℕ → ℕ → ℕ → Outcome
date_facts year month day =
    cond (not (is_date year month day)) (refused no_such_date)
    (gives (contract_month year month ∷ season_number (contract_month year month) ∷ days_remaining year month day ∷ []))
