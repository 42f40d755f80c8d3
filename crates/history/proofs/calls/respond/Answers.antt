use Rattle.std.proofs.Common.{rules, ◌≡◌}
use Rattle.opening.specs.Opens.{opened_as}
use Rattle.filing.specs.Files.{filed_as}
use Rattle.ending.specs.Ends.{ended_as}
use Rattle.converting.specs.Converts.{converted_as}
use Rattle.checking.specs.Checks.{checked_as}
use Rattle.history.specs.Calls.{told}
use Rattle.history.specs.Step.{changes, asks}
use Rattle.history.proofs.calls.respond.Goals as goal

pub returns-in-Open : goal.returns-in-Open
returns-in-Open c =
    let same : told c.map.result ≡ opened_as c.opening.result = search rules in
    rw (c.in-Open.is, same) (changes c.opening.ensures)

pub returns-in-Sheet : goal.returns-in-Sheet
returns-in-Sheet c =
    let same : told c.map-in-Sheet.result ≡ filed_as c.sheet-filed.result = search rules in
    rw (c.in-Sheet.is, same) (changes c.sheet-filed.ensures)

pub returns-in-End : goal.returns-in-End
returns-in-End c =
    let same : told c.map-in-End.result ≡ ended_as c.end.result = search rules in
    rw (c.in-End.is, same) (changes c.end.ensures)

pub returns-in-Convert : goal.returns-in-Convert
returns-in-Convert c =
    let same : told c.map-in-Convert.result ≡ converted_as c.convert.result = search rules in
    rw (c.in-Convert.is, same) (changes c.convert.ensures.responds)

pub returns-in-Check : goal.returns-in-Check
returns-in-Check c =
    let same : told c.map-in-Check.result ≡ checked_as c.check-checked.result = search rules in
    rw (c.in-Check.is, same) (asks c.check-checked.ensures)
