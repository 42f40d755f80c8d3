use Rattle.std.proofs.Common.{refl, rules, sym}
use Rattle.record.specs.Record.{convert, converted, answer}
use Rattle.record.proofs.Cleared.{accepted_clear}
use Rattle.book.proofs.Responses.{refused_call, accepted_responds}
use Rattle.converting.specs.Converts.{with_2023}
use Rattle.converting.proofs.Conversions.{converted_view}
use Rattle.converting.proofs.convert.Goals as goal

pub returns-in_err-refusal_of : goal.returns-in_err-refusal_of
returns-in_err-refusal_of c =
    let b = c.args.b.now in
    let by = c.in_err-refusal_of.ensures in
    record {
      responds = refused_call (λ _. converted) b convert c.from_residual.result c.in_err-refusal_of.field-0.0 (search rules) by;
      book = λ e. cc (e, by);
    }

pub returns : goal.returns
unfolding answer
returns c =
    let b = c.args.b.now in
    record {
      responds = accepted_responds b convert converted (with_2023 b) (sym c.in_ok-refusal_of.ensures) refl (converted_view b (accepted_clear _ _ (sym c.in_ok-refusal_of.ensures)).0);
      book = λ e. refl;
    }
