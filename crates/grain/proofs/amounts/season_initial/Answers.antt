use native.Mathlib.Omega.{arith}
use mathlib.Core.Path.{◌∙◌}
use Prim.Native.Nat.{◌+◌, ◌*◌, ◌<◌}
use lib.Dec.{lit<}
use native.Mathlib.Nat.{max_comm}
use Rattle.grain.specs.Amounts.{season_by}
use Rattle.grain.proofs.Columns.{step_positive, step_small}
use Rattle.grain.proofs.Rounding.{whole_steps}
use Rattle.grain.proofs.amounts.season_initial.Goals as goal

pub whole_steps-rounded-requires : goal.whole_steps-rounded-requires
whole_steps-rounded-requires c =
    let p = c.args.product in
    omega (arith, c.step-step.ensures, step_positive p c.requires, step_small p c.requires)

pub overflow_cast-rounded : goal.overflow_cast-rounded
overflow_cast-rounded c =
    let a = c.args in
    let step = c.step-step.result in
    let small = step_small a.product c.requires in
    let pos : 0 < step = rw c.step-step.ensures (step_positive a.product c.requires) in
    let w = (whole_steps step 4500 (7 * a.sum + 2250 * step) pos (lit< tt)).not_above in
    omega (arith, c.whole_steps-rounded.ensures, c.step-step.ensures)

pub returns : goal.returns
unfolding season_by
returns c =
    c.max.ensures ∙ max_comm _ _ ∙ rw (c.floor.ensures, c.whole_steps-rounded.ensures, c.step-step.ensures)
