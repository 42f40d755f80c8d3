-- What a true day says of its trade date.
use Rattle.std.proofs.Common.{◌≡◌, sym, ◌∙◌, true, Option, Some, None}
use borrow.Author.Tests.{le-leb}
use Rattle.grain.specs.declared.spot.TradeDate.{TradeDate}
use Rattle.record.specs.declared.Day.{Day}
use Rattle.record.specs.State.{trade_date}
use Rattle.record.specs.Opening.{is_true_day}
use Rattle.record.proofs.TrueDays.{valid}
use Rattle.book.specs.Dates.{trade_date_of}

module _ (d : Day) (t : is_true_day d ≡ true) where
  pub dated-on : trade_date_of d ≡ Some (trade_date d)
  unfolding trade_date_of
  dated-on =
      let is = valid d t in
      rw (le-leb d.year 2098 is.last, le-leb 1 d.month is.some_month, le-leb d.month 12 is.last_month)

  -- it has a trade date
  pub has_date : (r : Option TradeDate) → r ≡ trade_date_of d → r ≡ None → ⊥
  has_date r e none = let z : ◌≡◌ {A = Option TradeDate} (Some (trade_date d)) None = sym dated-on ∙ sym e ∙ none in absurd_none z
    where
      absurd_none : ◌≡◌ {A = Option TradeDate} (Some (trade_date d)) None → ⊥
      absurd_none z = cc

  -- and that is the date's contract month with its left
  pub date_is : (r : Option TradeDate) (at : TradeDate) → r ≡ trade_date_of d → r ≡ Some at → at ≡ trade_date d
  date_is r at e on = let z : ◌≡◌ {A = Option TradeDate} (Some at) (Some (trade_date d)) = sym on ∙ e ∙ dated-on in cc
