use Rattle.std.proofs.Common.{rules, ltb}
use borrow.Author.Tests.{tests}
use Rattle.std.proofs.lemmas.Fn.{always_returns_same}
use Rattle.record.specs.declared.Contract.{Contract}
use Rattle.grain.proofs.Adjacent.{ascending_from_adjacent}
use Rattle.sheets.proofs.sheet.Sheet.is_ascending.Goals as goal

pub returns : goal.returns
returns c =
    rw c.entries.ensures at
    (ascending_from_adjacent (λ (d : Contract). d.month) c.entries.result.now _
    (c.is_sorted_by.ensures.cases (λ (a b : Contract). ltb a.month b.month) (always_returns_same _ _ _ (λ a r f k. search (rules, tests)))))
