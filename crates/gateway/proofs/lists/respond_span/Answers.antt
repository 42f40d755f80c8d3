use Rattle.std.proofs.Common.{ap}
use Rattle.gateway.specs.declared.spans.Spanned.{Spanned}
use Rattle.gateway.specs.Images.{asks}
use Rattle.gateway.proofs.lists.respond_span.Goals as goal

pub returns : goal.returns
returns c = asks _ (ap (λ (s : Spanned). s.answer) c.botskhela_check_span.ensures)
