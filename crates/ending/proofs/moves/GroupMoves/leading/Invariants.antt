use Prim.Native.Nat.{◌≤◌, ◌+◌, ◌-◌, ◌^◌}
use mathlib.Core.Path.{◌≡◌}
use Rattle.book.specs.Numbers.{products_before}
use Rattle.ending.proofs.Searched.{met, Seen, ClearAt}
use Rattle.ending.proofs.moves.GroupMoves.leading.Given as goal

abbrev pub invariant-months : goal.invariant-months
invariant-months l = Seen (met l.self.day.book.now l.self.day.date l.condition) (products_before l.self.group) (products_before (l.self.group + 1)) l.month

abbrev pub decreases-months : goal.decreases-months
decreases-months l = 2 ^ 32 - l.month

abbrev pub invariant-loop-p : goal.invariant-loop-p
invariant-loop-p l =
    record {
      from : products_before l.self.group ≤ l.p-iterator.start;
      upto : l.p-iterator.end ≡ products_before (l.self.group + 1);
      none : ClearAt (met l.self.day.book.now l.self.day.date l.condition) (products_before l.self.group) l.p-iterator.start l.next;
    }
