use Rattle.std.proofs.Common.{arith}
use Rattle.ending.proofs.Collected.{collected_first, still_fits, collected_next}
use Rattle.ending.proofs.collection.collect_all.Goals as goal

pub loop-p-init : goal.loop-p-init
loop-p-init c = collected_first _ _ _

pub collect-requires : goal.collect-requires
collect-requires c = (c.loop-p-test.true, still_fits _ _ _ _ _ c.loop-p.invariant (c.requires c.loop-p.p c.loop-p-test.true))

pub loop-p-preserved : goal.loop-p-preserved
loop-p-preserved c = collected_next _ _ _ _ _ c.loop-p.invariant _ (rw c.collected_month.ensures at c.collect.ensures.own) c.collect.ensures.others

pub returns : goal.returns
returns c = λ p l. c.loop-p.invariant.done p (omega arith)
