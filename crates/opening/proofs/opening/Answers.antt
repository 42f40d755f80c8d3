use Rattle.std.proofs.Common.{rules, refl, sym}
use Rattle.record.specs.Record.{opening, opened}
use Rattle.record.proofs.Cleared.{accepted_clear}
use Rattle.book.proofs.Responses.{refused_call, accepted_responds}
use Rattle.opening.proofs.opening.Goals as goal

pub returns-in_err-dates : goal.returns-in_err-dates
returns-in_err-dates c =
    refused_call opened c.args.b.now (opening c.args.day) c.from_residual.result c.in_err-dates.field-0.0 (search rules) c.in_err-dates.ensures.refusal

pub accept-requires-clause-sound : goal.accept-requires-clause-sound
accept-requires-clause-sound c = (accepted_clear _ _ (sym c.in_ok-dates.ensures.refusal)).0

pub returns : goal.returns
returns c =
    let a = c.args in
    let day = (c.in_ok-dates.ensures.dates _ refl).1 in
    accepted_responds a.b.now (opening a.day) (opened c.accept.result) c.accept.new.b (sym c.in_ok-dates.ensures.refusal) (rw day at c.accept.ensures.0) (rw day at c.accept.ensures.1)
