-- A price check on an open day: the terms that a product and size have, and what a month and price get on them.
use Rattle.std.specs.Prelude.{ℕ, not, cond, List, [], ◌∷◌, ltb, Option, None, is_some, unwrap_or}
use Rattle.grain.specs.Products.{tick_of, is_offered}
use Rattle.grain.specs.Prices.{is_on_tick}
use Rattle.grain.specs.Spot.{is_spot}
use Rattle.grain.specs.Check.{verdict}
use Rattle.grain.specs.Refusals.{no_such_product, bad_price}
use Rattle.grain.specs.declared.check.Verdict.{Verdict}
use Rattle.grain.specs.declared.spot.TradeDate.{TradeDate}
use Rattle.record.specs.Refusals.{Test, when, wrong_phase, not_listed}
use Rattle.record.specs.State.{Sheet, Group, Common, day_of, trade_date, product_in, todays_limit, sheet_or, settlement_on}

-- What holds for a product and size on the open day.
pub record Terms : Type 0 where
  pub tick : ℕ
  pub limit : ℕ
  pub date : TradeDate
  -- the sheet of the last ended day
  pub last : Sheet

-- the refusals of a product and size after 1, in their order
unfoldable pub terms_tests : Common → ℕ → ℕ → List Test
terms_tests c p size = when (not c.is_open) wrong_phase ∷ when (not (is_offered p size)) no_such_product ∷ []

abbrev pub terms_of : Common → Group → ℕ → ℕ → Terms
terms_of c g p size =
    record {
      tick = tick_of p size;
      limit = todays_limit g p;
      date = trade_date (day_of c);
      last = sheet_or (product_in g p).last;
    }

-- the settlement that a check takes: of the last ended day, of a month that is not before the date's
abbrev pub listed : TradeDate → Sheet → ℕ → Option ℕ
listed date last month = cond (ltb month date.month) None (settlement_on last month)

-- the refusals of a month and price, in their order
unfoldable pub order_tests : Terms → ℕ → ℕ → List Test
order_tests t month price =
    when (not (is_some (listed t.date t.last month))) not_listed ∷ when (not (is_on_tick t.tick price)) bad_price ∷ []

unfoldable pub judged : Terms → ℕ → ℕ → Verdict
judged t month price =
    verdict (is_spot t.date month) t.tick (unwrap_or (listed t.date t.last month) 0) t.limit price
