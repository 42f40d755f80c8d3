use Rattle.std.proofs.Common.{rules, ◌≡◌, ◌≤◌, ◌&&◌, length, eqb, leb}
use native.Mathlib.Omega.{arith}
use lib.ListN.{get_or}
use borrow.Author.Count.{below_more}
use borrow.Author.Tests.{eqb-true, leb-true}
use Rattle.std.proofs.lemmas.List.{length_push}
use Rattle.std.proofs.lemmas.Slice.Zip.{zip_turn, zip_end}
use Rattle.grain.specs.Lists.{distance}
use Rattle.grain.proofs.Tests.{&&-left, &&-right}
use Rattle.sheets.specs.Sheets.{no_contract}
use Rattle.filing.proofs.After.{near_next, all_near}
use Rattle.filing.proofs.quick.are_plainly_after.Goals as goal

pub loop-before-init : goal.loop-before-init
loop-before-init c = (λ e. (eqb-true _ _ e, λ j h. absurd (omega (arith, h))), λ j h. absurd (omega (arith, h)))

pub loop-before-preserved : goal.loop-before-preserved
loop-before-preserved c =
    let earlier = c.args.earlier.now in
    let cs = c.args.contracts.now in
    let at = c.loop-before in
    let i = length at.yielded in
    let before = c.in-Some.before.now in
    let now = c.in-Some.contract.now in
    let turn =
    zip_turn earlier cs at.yielded c.into_iter-before-iterator.result at.before-iterator c.next.new.self c.next.result (search rules) (search rules) at.yielded_by
    (c.in-Some.before, c.in-Some.contract) c.in-Some.is c.next.ensures.steps in
    let more = length_push at.yielded (c.in-Some.before, c.in-Some.contract) in
    let as_before : before ≡ get_or earlier i no_contract = turn.2 no_contract in
    let as_now : now ≡ get_or cs i no_contract = turn.3 no_contract in
    let same = at.plain && eqb now.month before.month in
    let near = leb c.abs_diff.result c.args.limit in (
      λ e.
          let was = at.invariant.0 (&&-left at.plain _ (&&-left same near e)) in
          let month = eqb-true now.month before.month (&&-right at.plain _ (&&-left same near e)) in
          let within = leb-true c.abs_diff.result c.args.limit (&&-right same near e) in
          let moved : distance now.settlement before.settlement ≤ c.args.limit = omega (arith, within, c.abs_diff.ensures) in
          (was.0, λ j h. near_next c.args.limit earlier cs i before now as_before as_now was.1 month moved j (rw more at h)),
      λ j h. below_more _ i (λ j h. c.join-joined.ensures.still _ (at.invariant.1 j h)) (rw as_now at c.join-joined.ensures.now) j (rw more at h),
    )

pub returns-then-plain : goal.returns-then-plain
returns-then-plain c =
    let earlier = c.args.earlier.now in
    let cs = c.args.contracts.now in
    let at = c.loop-before in
    let near = at.invariant.0 c.if-plain.true in
    let end =
    zip_end earlier cs at.yielded c.into_iter-before-iterator.result at.before-iterator c.next.new.self c.next.result (search rules) (search rules) at.yielded_by
    c.in-None.is c.next.ensures.steps in
    λ e. all_near c.args.product c.args.limit earlier cs (length at.yielded) near.0 (omega (arith, end, near.0)) near.1
    (λ j h. rw (← c.tick-tick.ensures) (c.are_joined_on_tick.ensures.accepts e _ (at.invariant.1 j h)))
