use Rattle.std.proofs.Common.{◌≡◌, drop}
use Rattle.sheets.specs.Sheets.{are_sound_contracts}
use Rattle.sheets.proofs.InOneLoop.{sound_from}
use Rattle.sheets.proofs.sheet.Sheet.are_sound.Given as goal

abbrev pub invariant-loop-contract : goal.invariant-loop-contract
invariant-loop-contract l = are_sound_contracts l.product l.contracts ≡ sound_from l.product l.from (drop l.contract-index l.contracts)
