use Rattle.std.proofs.Common.{sym, ◌∙◌}
use Rattle.book.proofs.FoundingNumbers.{no_edition_lem, unfit, fit}
use Rattle.book.proofs.founding.found.Goals as goal

pub returns-then-not-is_edition : goal.returns-then-not-is_edition
returns-then-not-is_edition c = no_edition_lem _ (sym c.is_edition.ensures ∙ c.if-not-is_edition.true)

pub returns-then-not-are_fit : goal.returns-then-not-are_fit
returns-then-not-are_fit c =
    unfit _ (sym c.is_edition.ensures ∙ c.if-not-is_edition.false) (sym c.are_fit.ensures ∙ c.if-not-are_fit.true)

pub returns : goal.returns
returns c =
    (fit _ (sym c.is_edition.ensures ∙ c.if-not-is_edition.false) (sym c.are_fit.ensures ∙ c.if-not-are_fit.false), c.fresh.ensures)
