-- What the product table, the founding limits and the bare check's order say, computed at their edges.
use mathlib.Core.Path.{◌≡◌, refl}
use mathlib.Core.Bool.{true, false}
use Rattle.grain.specs.Products.{steps, floors, firsts, standard_ticks, mini_ticks, grain_months, soybean_months, oil_and_meal_months, rice_months, months_traded, is_product, first_of, tick_of, is_traded}
use Rattle.grain.specs.Prices.{is_on_tick, is_settlement}
use Rattle.grain.specs.Amounts.{is_fit, is_fit_amount, is_fit_founding}
use Rattle.grain.specs.Dates.{contract_month}
use Rattle.grain.specs.Check.{verdict}
use Rattle.grain.specs.Bare.{bare_answer, bare_check}

pub record ProductCases : Type 0 where
  -- Rough Rice is the last product
  pub rice : is_product 7 ≡ true
  pub ninth : is_product 8 ≡ false
  -- KC Wheat has no mini, Chicago Wheat has
  pub kc_mini : tick_of 5 1 ≡ 0
  pub chicago_mini : tick_of 4 1 ≡ 1
  pub corn_tick : tick_of 0 0 ≡ 2
  -- N of Corn and of Oil
  pub corn_first : first_of 0 ≡ 5
  pub oil_first : first_of 2 ≡ 8
  -- Rice trades in November and not in December, Soybeans in August and not in October
  pub rice_november : is_traded 7 (contract_month 2024 11) ≡ true
  pub rice_december : is_traded 7 (contract_month 2024 12) ≡ false
  pub soybeans_august : is_traded 1 (contract_month 2024 8) ≡ true
  pub soybeans_october : is_traded 1 (contract_month 2024 10) ≡ false
  -- a settlement of Corn is on the standard tick; one of Oil may be odd
  pub corn_odd : is_settlement 0 4001 ≡ false
  pub oil_odd : is_settlement 2 4001 ≡ true
  -- a founding limit runs to 1,000,000, another amount to 2,000,000
  pub founding_most : is_fit_founding 0 1000000 ≡ true
  pub founding_beyond : is_fit_founding 0 1000040 ≡ false
  pub amount_most : is_fit_amount 0 2000000 ≡ true
  pub amount_beyond : is_fit_amount 0 2000040 ≡ false
  pub below_floor : is_fit_amount 1 360 ≡ false
  -- 5 before 8 before 13, for a spot order too
  pub five_first : bare_check 8 0 4001 7 1 4001 ≡ 5
  pub eight_next : bare_check 0 0 4000 7 1 4001 ≡ 8
  pub thirteen_last : bare_check 0 0 4000 7 1 4000 ≡ 13
  pub spot_two : bare_check 0 0 4000 200 2 9000 ≡ 100

pub product_cases : ProductCases
unfolding steps floors firsts standard_ticks mini_ticks grain_months soybean_months oil_and_meal_months rice_months months_traded tick_of is_traded is_on_tick is_fit contract_month bare_answer verdict
product_cases =
    record {
      rice = refl;
      ninth = refl;
      kc_mini = refl;
      chicago_mini = refl;
      corn_tick = refl;
      corn_first = refl;
      oil_first = refl;
      rice_november = refl;
      rice_december = refl;
      soybeans_august = refl;
      soybeans_october = refl;
      corn_odd = refl;
      oil_odd = refl;
      founding_most = refl;
      founding_beyond = refl;
      amount_most = refl;
      amount_beyond = refl;
      below_floor = refl;
      five_first = refl;
      eight_next = refl;
      thirteen_last = refl;
      spot_two = refl;
    }
