use Rattle.std.proofs.Common.{sym, ◌∙◌, arith}
use native.Mathlib.Nat.{min_comm}
use Rattle.grain.specs.Amounts.{expanded_by}
use Rattle.grain.proofs.Columns.{step_positive, step_small, expanded_beyond}
use Rattle.grain.proofs.amounts.expanded.Goals as goal

pub returns-then-product-ge-PRODUCTS : goal.returns-then-product-ge-PRODUCTS
returns-then-product-ge-PRODUCTS c = sym (expanded_beyond c.args.product c.args.initial c.if-product-ge-PRODUCTS.true)

pub overflow_sub-step : goal.overflow_sub-step
overflow_sub-step c = omega (arith, c.step-step.ensures, step_positive c.args.product c.if-product-ge-PRODUCTS.false)

pub whole_steps-rounded-requires : goal.whole_steps-rounded-requires
whole_steps-rounded-requires c =
    let p = c.args.product in
    omega (arith, c.step-step.ensures, step_positive p c.if-product-ge-PRODUCTS.false, step_small p c.if-product-ge-PRODUCTS.false)

pub returns : goal.returns
unfolding expanded_by
returns c = c.min.ensures ∙ min_comm _ _ ∙ rw (c.whole_steps-rounded.ensures, c.step-step.ensures)
