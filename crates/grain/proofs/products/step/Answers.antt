use Rattle.grain.specs.Products.{steps}
use mathlib.Core.Path.{refl}
use Rattle.grain.proofs.products.step.Goals as goal

pub returns : goal.returns
unfolding steps
returns c = refl
