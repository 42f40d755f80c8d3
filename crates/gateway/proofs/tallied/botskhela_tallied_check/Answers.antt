use Rattle.gateway.proofs.TallyRefusals.{refusing}
use Rattle.gateway.proofs.tallied.botskhela_tallied_check.Goals as goal

pub returns-in-Some : goal.returns-in-Some
returns-in-Some c = rw c.from.ensures (refusing c.args.tally.now _ _ c.refusal.ensures c.in-Some.is _)
