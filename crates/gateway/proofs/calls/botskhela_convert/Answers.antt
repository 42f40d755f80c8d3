use Rattle.gateway.proofs.Leaves.{converts_image}
use Rattle.gateway.proofs.calls.botskhela_convert.Goals as goal

pub returns : goal.returns
returns c = rw c.number.ensures (converts_image c.args.image.now _ c.convert.result c.convert.ensures)
