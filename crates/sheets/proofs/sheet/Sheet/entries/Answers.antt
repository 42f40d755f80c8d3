use Rattle.std.proofs.Common.{arith}
use Rattle.std.proofs.lemmas.Grind.{common_steps}
use Rattle.sheets.specs.Sheets.{entries_of}
use Rattle.sheets.proofs.sheet.Sheet.entries.Goals as goal

pub returns : goal.returns
unfolding entries_of
returns c = rw c.min.ensures (grind (arith, common_steps))
