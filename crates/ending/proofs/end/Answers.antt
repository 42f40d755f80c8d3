use Rattle.std.proofs.Common.{rules, refl, sym}
use Rattle.record.specs.Record.{end, change, ended}
use Rattle.record.proofs.Cleared.{accepted_clear}
use Rattle.book.specs.Book.{view}
use Rattle.book.proofs.Responses.{refused_call, accepted_responds}
use Rattle.ending.proofs.end.Goals as goal

pub returns-in_err-on : goal.returns-in_err-on
returns-in_err-on c = refused_call ended c.args.b.now end c.from_residual.result c.in_err-on.field-0.0 (search rules) c.in_err-on.ensures.refusal

pub accepted-requires : goal.accepted-requires
accepted-requires c = ((accepted_clear (view c.args.b.now) (change end) (sym c.in_ok-on.ensures.refusal)).0, c.in_ok-on.ensures.day _ refl)

pub returns : goal.returns
returns c =
    accepted_responds c.args.b.now end (ended c.accepted.result) c.accepted.new.b (sym c.in_ok-on.ensures.refusal) c.accepted.ensures.0 c.accepted.ensures.1
