use Rattle.std.proofs.Common.{◌≡◌, length, map, take}
use Rattle.sheets.proofs.sheet.Sheet.of.Given as goal

abbrev pub invariant-loop-i : goal.invariant-loop-i
invariant-loop-i l =
    (length l.all ≡ 16) × (l.i-iterator.count ≡ length l.yielded)
    × (take (length l.yielded) l.all ≡ map (λ y. record { month = y.1.0.now; settlement = y.1.1.now }) l.yielded)
