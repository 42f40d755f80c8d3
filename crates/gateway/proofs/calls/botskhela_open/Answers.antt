use Rattle.std.proofs.Common.{refl}
use Rattle.record.specs.Record.{opening, opened}
use Rattle.opening.specs.Opens.{day_on}
use Rattle.gateway.proofs.Leaves.{accepted_image}
use Rattle.gateway.proofs.calls.botskhela_open.Goals as goal

pub returns-in-Ok : goal.returns-in-Ok
returns-in-Ok c =
    let a = c.args in
    accepted_image a.image.now (opening (day_on a.year a.month a.day a.left)) (opened c.in-Ok.renewed) _ (rw c.in-Ok.is at c.opening.ensures) _ _ refl c.renewed_words-image.ensures refl
