use Rattle.grain.proofs.Spanned.{every_span}
use Rattle.grain.proofs.laws.every_span.Goals as goal

pub returns : goal.returns
returns c = every_span
