use mathlib.Core.Path.{sym, ◌∙◌}
use Rattle.grain.specs.Lists.{◌and◌}
use Rattle.book.proofs.soundness.is_sound_limit.Goals as goal

pub returns-then-not-is_fit_amount : goal.returns-then-not-is_fit_amount
unfolding ◌and◌
returns-then-not-is_fit_amount c = rw (sym c.is_fit_amount.ensures ∙ c.if-not-is_fit_amount.true)

pub returns : goal.returns
unfolding ◌and◌
returns c = rw (sym c.is_fit_amount.ensures ∙ c.if-not-is_fit_amount.false, c.expanded.ensures)
