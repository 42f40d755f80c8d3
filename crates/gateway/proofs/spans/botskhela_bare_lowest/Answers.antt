use mathlib.Core.Path.{◌∙◌, ap}
use Rattle.grain.specs.declared.check.Span.{Span}
use Rattle.grain.specs.Bare.{bare_span}
use Rattle.gateway.proofs.spans.botskhela_bare_lowest.Goals as goal

pub returns : goal.returns
returns c = ap (λ (s : Span). s.lowest) c.span_of.ensures ∙ ap (λ r. (bare_span r).lowest) c.bare_check.ensures
