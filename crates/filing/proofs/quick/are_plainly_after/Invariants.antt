use Rattle.std.proofs.Common.{◌≡◌, true, length}
use Rattle.sheets.proofs.Plain.{Joined}
use Rattle.filing.proofs.After.{Near}
use Rattle.filing.proofs.quick.are_plainly_after.Given as goal

abbrev pub invariant-loop-before : goal.invariant-loop-before
invariant-loop-before l =
    (l.plain ≡ true → (length l.earlier ≡ length l.contracts) × Near l.limit l.earlier l.contracts (length l.yielded))
    × Joined l.product l.contracts l.tick l.joined (length l.yielded)
