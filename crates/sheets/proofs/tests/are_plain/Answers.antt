use Rattle.std.proofs.Common.{sym, ◌∙◌, ap}
use Rattle.std.specs.Option.{option_copied}
use native.Mathlib.Omega.{arith}
use borrow.Author.Count.{below_more}
use Rattle.sheets.proofs.Plain.{none_sound, nearest_is, left_first, left_next, left_end}
use Rattle.sheets.proofs.tests.are_plain.Goals as goal

pub returns-in_default : goal.returns-in_default
returns-in_default c = λ e. none_sound c.args.product c.args.contracts.now (sym (ap option_copied c.in_default.is) ∙ c.first.ensures.value)

pub loop-contract-init : goal.loop-contract-init
loop-contract-init c =
    let near = nearest_is c.args.contracts.now c.in-Some.nearest.now (sym (ap option_copied c.in-Some.is) ∙ c.first.ensures.value) in
    (omega arith, left_first c.args.product c.args.contracts.now _ (sym (ap (λ c. c.month) near)), λ j h. absurd (omega (arith, h)))

pub overflow_sub-after : goal.overflow_sub-after
overflow_sub-after c = omega (arith, c.loop-contract.invariant.0, c.if-month-from.false)

pub loop-contract-preserved : goal.loop-contract-preserved
loop-contract-preserved c =
    let i = c.loop-contract.contract-index in
    let inv = c.loop-contract.invariant in (
      omega (arith, inv.0, c.if-month-from.false),
      left_next c.args.product c.args.contracts.now _ _ i _ _ c.loop-contract-test.true inv.0 c.if-month-from.false c.traded_from-traded.ensures.months
          (λ h. omega (arith, h, inv.0, c.if-month-from.false)) c.if-traded-after-eq0.false inv.1,
      below_more _ i (λ j h. c.join-joined.ensures.still _ (inv.2 j h)) c.join-joined.ensures.now,
    )

pub returns : goal.returns
returns c =
    let inv = c.loop-contract.invariant in
    λ e. left_end c.args.product c.args.contracts.now _ _ c.loop-contract.contract-index c.loop-contract-test.false c.if-first-from.false
    (λ j h. rw (← c.tick-tick.ensures) (c.are_joined_on_tick.ensures.accepts e _ (inv.2 j h)))
    inv.1
