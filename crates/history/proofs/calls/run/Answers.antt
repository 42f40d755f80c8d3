use Rattle.std.proofs.Common.{arith, ◌≡◌, refl, ◌∙◌, ◌<◌, min, length, take, drop}
use Rattle.std.proofs.lemmas.List.{length-set, drop-set-lt, take_min}
use Rattle.history.specs.Step.{Step}
use Rattle.history.specs.Trace.{Trace, done}
use Rattle.history.specs.Runs.{made}
use Rattle.history.specs.Runs.{answered as told_of}
use Rattle.history.specs.Calls.{call_as, told}
use Rattle.history.proofs.Follows.{answered, contents}
use Rattle.history.proofs.Traces.{one_more}
use Rattle.history.proofs.calls.run.Goals as goal

pub loop-i-init : goal.loop-i-init
loop-i-init c = (refl, λ n h. refl, done)

pub loop-i-preserved : goal.loop-i-preserved
loop-i-preserved c =
    let i = c.loop-i.i in
    let replies = c.loop-i.replies in
    let inv = c.loop-i.invariant in
    let called : i < length c.args.calls.now = omega (arith, c.loop-i-test.true, c.min-i-end.ensures) in
    let placed : i < length replies = omega (arith, c.loop-i-test.true, c.min-i-end.ensures, inv.0) in (
      length-set replies i c.respond.result ∙ inv.0,
      λ n h. drop-set-lt n replies i c.respond.result (omega (arith, h)) ∙ inv.1 n (omega (arith, h)),
      one_more call_as told c.args.calls.now replies i _ c.respond.result called placed inv.2 c.respond.ensures,
    )

pub returns : goal.returns
returns c =
    let a = c.args in
    let replies = c.loop-i.replies in
    let inv = c.loop-i.invariant in
    let called : c.loop-i.i ≡ min (length a.replies.now) (length a.calls.now) = omega (arith, c.loop-i-test.false, c.loop-i.auto.i-end, c.min-i-end.ensures) in
    let told : c.loop-i.i ≡ min (length a.calls.now) (length replies) = omega (arith, called, inv.0) in
    let calls : take c.loop-i.i a.calls.now ≡ take (length a.replies.now) a.calls.now = rw called (take_min (length a.replies.now) a.calls.now) in
    let places : take c.loop-i.i replies ≡ take (length a.calls.now) replies = rw told (take_min (length a.calls.now) replies) in
    let trace : Trace Step a.b.now (made a.calls.now a.replies.now) (told_of a.calls.now replies) c.loop-i.b = rw (← calls, ← places) inv.2 in
    let rest : drop (length a.calls.now) replies ≡ drop (length a.calls.now) a.replies.now = inv.1 (length a.calls.now) (omega (arith, called)) in
    record { trace = trace; answers = answered trace; contents = contents trace; rest = rest }
