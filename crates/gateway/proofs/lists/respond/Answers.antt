use Rattle.gateway.specs.Images.{changes, asks}
use Rattle.gateway.proofs.lists.respond.Goals as goal

pub returns-in-Open : goal.returns-in-Open
returns-in-Open c = rw c.in-Open.is (changes _ c.botskhela_open.ensures)

pub returns-in-Sheet : goal.returns-in-Sheet
returns-in-Sheet c = rw c.in-Sheet.is (changes _ c.botskhela_sheet.ensures)

pub returns-in-End : goal.returns-in-End
returns-in-End c = rw c.in-End.is (changes _ c.botskhela_end.ensures)

pub returns-in-Convert : goal.returns-in-Convert
returns-in-Convert c = rw c.in-Convert.is (changes _ c.botskhela_convert.ensures.responds)

pub returns-in-Check : goal.returns-in-Check
returns-in-Check c = rw c.in-Check.is (asks _ c.botskhela_check.ensures)
