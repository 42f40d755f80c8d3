-- Spot contracts, which have no limit.
use Rattle.std.specs.Prelude.{ℕ, ◌+◌, Bool, ◌&&◌, ◌||◌, leb, eqb}
-- the contract month that a date is in, and what the rule calls left: the business days of that month after the date
use Rattle.grain.specs.declared.spot.TradeDate.{TradeDate}

-- a contract month is spot on a date
unfoldable pub is_spot : TradeDate → ℕ → Bool
is_spot d month = leb month d.month || (eqb month (d.month + 1) && leb d.left 1)
