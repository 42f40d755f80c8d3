use mathlib.Core.Path.{◌∙◌, ap}
use Rattle.gateway.specs.Calls.{with_span}
use Rattle.gateway.proofs.spans.botskhela_check_span.Goals as goal

pub returns : goal.returns
returns c = c.into.ensures ∙ ap with_span c.check.ensures
