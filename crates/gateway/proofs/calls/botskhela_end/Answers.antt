use Rattle.std.proofs.Common.{refl}
use Rattle.record.specs.Record.{end, ended}
use Rattle.gateway.proofs.Leaves.{accepted_image}
use Rattle.gateway.proofs.calls.botskhela_end.Goals as goal

pub returns-in-Ok : goal.returns-in-Ok
returns-in-Ok c =
    accepted_image c.args.image.now end (ended c.in-Ok.events) _ (rw c.in-Ok.is at c.end.ensures) _ _ refl refl c.events_words-image.ensures
