use Rattle.std.proofs.Common.{sym, ◌∙◌}
use Rattle.sheets.proofs.InOneLoop.{sound_start, sound_fails, sound_goes_on, sound_end}
use Rattle.sheets.proofs.sheet.Sheet.are_sound.Goals as goal

pub loop-contract-init : goal.loop-contract-init
loop-contract-init c = sound_start _ _

pub returns-then-not-is_sound_contract : goal.returns-then-not-is_sound_contract
returns-then-not-is_sound_contract c =
    let no = sym (rw c.tick-tick.ensures at c.is_sound_contract.ensures) ∙ c.if-not-is_sound_contract.true in
    sym (rw c.entries-contracts.ensures at (c.loop-contract.invariant ∙ sound_fails _ c.loop-contract.contract-index _ _ c.loop-contract-test.true no))

pub loop-contract-preserved : goal.loop-contract-preserved
loop-contract-preserved c =
    let yes = sym (rw c.tick-tick.ensures at c.is_sound_contract.ensures) ∙ c.if-not-is_sound_contract.false in
    c.loop-contract.invariant ∙ sound_goes_on _ c.loop-contract.contract-index _ _ c.loop-contract-test.true yes

pub returns : goal.returns
returns c = sym (rw c.entries-contracts.ensures at (c.loop-contract.invariant ∙ sound_end _ c.loop-contract.contract-index _ _ c.loop-contract-test.false))
