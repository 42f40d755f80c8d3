use Rattle.std.proofs.Common.{refl}
use Rattle.record.specs.Record.{sheet, filed}
use Rattle.gateway.proofs.Leaves.{silent_image}
use Rattle.gateway.proofs.calls.botskhela_sheet.Goals as goal

pub returns : goal.returns
returns c =
    let a = c.args in
    rw c.number.ensures (silent_image a.image.now (sheet a.product a.months.now a.settlements.now) filed _ c.sheet.result refl refl refl c.sheet.ensures)
