use Rattle.std.proofs.Common.{rules}
use Rattle.opening.proofs.Starts.{started_first, started_next, started_all}
use Rattle.opening.proofs.standings.standings_on.Goals as goal

pub loop-p-init : goal.loop-p-init
loop-p-init c = started_first _ _ (search rules)

pub loop-p-preserved : goal.loop-p-preserved
loop-p-preserved c =
    rw c.group_of-g.ensures
    (started_next _ _ c.loop-p.p _ c.loop-p.invariant c.loop-p-test.true _ (rw c.group_of-g.ensures at c.standing_on.ensures))

pub returns : goal.returns
returns c = started_all _ _ c.loop-p.p _ c.loop-p.invariant c.loop-p-test.false
