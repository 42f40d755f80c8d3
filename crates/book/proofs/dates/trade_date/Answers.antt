use borrow.Author.Tests.{lt-leb, le-leb}
use Rattle.grain.specs.Dates.{contract_month}
use Rattle.book.specs.Dates.{trade_date_of}
use Rattle.book.proofs.dates.trade_date.Goals as goal

pub returns-then-d-gt2098 : goal.returns-then-d-gt2098
unfolding trade_date_of
returns-then-d-gt2098 c = rw (lt-leb _ _ c.if-d-gt2098.true)

pub returns-then-d-lt1 : goal.returns-then-d-lt1
unfolding trade_date_of
returns-then-d-lt1 c = rw (le-leb _ _ c.if-d-gt2098.false, lt-leb _ _ c.if-d-lt1.true)

pub returns-then-d-gt12 : goal.returns-then-d-gt12
unfolding trade_date_of
returns-then-d-gt12 c = rw (le-leb _ _ c.if-d-gt2098.false, le-leb _ _ c.if-d-lt1.false, lt-leb _ _ c.if-d-gt12.true)

pub returns : goal.returns
unfolding trade_date_of contract_month
returns c = rw (le-leb _ _ c.if-d-gt2098.false, le-leb _ _ c.if-d-lt1.false, le-leb _ _ c.if-d-gt12.false)
