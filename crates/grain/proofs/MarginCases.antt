-- Answers of the margin calls, computed: what the rule says, and the one answer that says it.
use mathlib.Core.Path.{◌≡◌, refl}
use mathlib.Core.List.{[], ◌∷◌}
use lib.ListN.{replicate}
use Rattle.std.specs.Prelude.{ℕ, Result, Err}
use Rattle.grain.specs.Lists.{◌and◌, every}
use Rattle.grain.specs.Products.{steps, floors, standard_ticks, tick_of}
use Rattle.grain.specs.Prices.{is_on_tick}
use Rattle.grain.specs.Amounts.{expanded_by, season_by, is_fit}
use Rattle.grain.specs.Dates.{is_leap, month_length, is_date, contract_month, season_number, days_remaining}
use Rattle.grain.specs.Margin.{refused, gives, expanded_limit_as, expanded_limit, season_limits_as, season_limits, date_facts_as, date_facts}
use Rattle.grain.specs.declared.amounts.Limit.{Limit}
use Rattle.grain.specs.declared.margin.DateFacts.{DateFacts}
use Rattle.grain.specs.declared.refusals.Refusal.{Refusal}
use Rattle.grain.specs.declared.refusals.Refusal.TheVariants.{NoSuchDate, NoSuchProduct, BadPrice}
use Rattle.grain.proofs.Outcomes.{expanded_limit_same, season_limits_same, date_facts_same}

-- Corn, whose step is 40 and whose floor is 160
pub record MarginCases : Type 0 where
  pub no_product : expanded_limit 9 200 ≡ refused 5
  pub unfit : expanded_limit 0 7 ≡ refused 13
  pub expanded : expanded_limit 0 200 ≡ gives (320 ∷ [])
  -- no such product comes before a wrong number of settlements, and that before a bad one
  pub no_season_product : season_limits 8 [] ≡ refused 5
  pub short : season_limits 0 (replicate 44 6001) ≡ refused 6
  pub long : season_limits 0 (replicate 46 6000) ≡ refused 6
  pub off_tick : season_limits 0 (replicate 45 6001) ≡ refused 8
  pub season : season_limits 0 (replicate 45 6000) ≡ gives (440 ∷ 680 ∷ [])
  pub no_date : date_facts 2023 2 29 ≡ refused 3
  pub leap_day : date_facts 2024 2 29 ≡ gives (24289 ∷ 4047 ∷ 0 ∷ [])
  -- so of the calls
  pub no_product_answer : (r : Result ℕ Refusal) → expanded_limit_as r ≡ expanded_limit 9 200 → r ≡ Err NoSuchProduct
  pub off_tick_answer : (r : Result Limit Refusal) → season_limits_as r ≡ season_limits 0 (replicate 45 6001) → r ≡ Err BadPrice
  pub no_date_answer : (r : Result DateFacts Refusal) → date_facts_as r ≡ date_facts 2023 2 29 → r ≡ Err NoSuchDate

pub cases : MarginCases
unfolding expanded_limit season_limits date_facts is_fit floors steps expanded_by every ◌and◌ is_on_tick tick_of standard_ticks season_by is_date month_length is_leap contract_month season_number days_remaining
cases =
    record {
      no_product = refl;
      unfit = refl;
      expanded = refl;
      no_season_product = refl;
      short = refl;
      long = refl;
      off_tick = refl;
      season = refl;
      no_date = refl;
      leap_day = refl;
      no_product_answer = λ r e. expanded_limit_same r (Err NoSuchProduct) e;
      off_tick_answer = λ r e. season_limits_same r (Err BadPrice) e;
      no_date_answer = λ r e. date_facts_same r (Err NoSuchDate) e;
    }
