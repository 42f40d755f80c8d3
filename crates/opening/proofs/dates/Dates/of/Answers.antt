use Rattle.std.proofs.Common.{sym, ◌∙◌}
use Rattle.book.specs.Book.{view}
use Rattle.book.proofs.Phases.{passed}
use Rattle.book.proofs.SoundFacts.{true_day}
use Rattle.opening.proofs.dates.Dates.of.Goals as goal

pub invariant_of-dates : goal.invariant_of-dates
invariant_of-dates c =
    let b = c.args.b.now in
    record {
      last_true = λ x e. true_day b (passed (view b) _ (sym c.in_ok-expect.ensures)).sound x (sym c.opened.ensures ∙ e);
      day_true = sym c.if-not-is_true_day.ensures;
    }
