-- The trade date of a day that a book holds.
use Rattle.std.specs.Prelude.{◌&&◌, cond, leb, Option, Some, None}
use Rattle.grain.specs.declared.spot.TradeDate.{TradeDate}
use Rattle.record.specs.declared.Day.{Day}
use Rattle.record.specs.State.{trade_date}

-- a day whose year is past 2098 or whose month is none has no trade date; whether it is a date, soundness judges
unfoldable pub trade_date_of : Day → Option TradeDate
trade_date_of d = cond (leb d.year 2098 && leb 1 d.month && leb d.month 12) (Some (trade_date d)) None
