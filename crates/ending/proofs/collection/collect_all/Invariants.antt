use Rattle.ending.proofs.Collected.{CollectedTo}
use Rattle.ending.proofs.collection.collect_all.Given as goal

abbrev pub invariant-loop-p : goal.invariant-loop-p
invariant-loop-p l = CollectedTo l.on.day l.today l.fn.windows l.p l.windows
