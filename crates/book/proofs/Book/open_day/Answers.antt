use Rattle.std.proofs.Common.{rules, ◌≡◌, Some, None}
use Rattle.book.specs.Book.{opened_in}
use Rattle.book.proofs.OpenDays.{has_day, true_on, offers}
use Rattle.book.proofs.TradeDates.{has_date, date_is}
use Rattle.book.proofs.Book.open_day.Goals as goal

pub returns-in_err-day : goal.returns-in_err-day
returns-in_err-day c =
    let v = c.in_err-day.ensures.value in
    let none : opened_in c.args.self.now ≡ None = search rules in
    absurd (has_day c.args.self.now c.in_ok-expect.ensures none)

pub returns-in_err-date : goal.returns-in_err-date
returns-in_err-date c =
    let some : opened_in c.args.self.now ≡ Some c.in_ok-day.day = search rules in
    let v = c.in_err-date.ensures.value in
    let none : c.trade_date.result ≡ None = search rules in
    absurd (has_date _ (true_on c.args.self.now c.in_ok-expect.ensures _ some) c.trade_date.result c.trade_date.ensures none)

pub invariant_of-result : goal.invariant_of-result
invariant_of-result c =
    let some : opened_in c.args.self.now ≡ Some c.in_ok-day.day = search rules in
    let day = true_on c.args.self.now c.in_ok-expect.ensures _ some in
    let date : c.trade_date.result ≡ Some c.in_ok-date.date = search rules in
    record { is_true = day; dated = date_is _ day c.trade_date.result _ c.trade_date.ensures date }

pub returns : goal.returns
returns c =
    let some : opened_in c.args.self.now ≡ Some c.in_ok-day.day = search rules in
    offers c.args.self.now c.in_ok-expect.ensures _ some
