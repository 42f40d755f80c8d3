use Rattle.std.proofs.Common.{◌≤◌}
use Rattle.sheets.proofs.Plain.{Joined, Left}
use Rattle.sheets.proofs.tests.are_plain.Given as goal

abbrev pub invariant-loop-contract : goal.invariant-loop-contract
invariant-loop-contract l =
    (l.first ≤ l.from) × Left l.product l.contracts l.first l.from l.contract-index × Joined l.product l.contracts l.tick l.joined l.contract-index
