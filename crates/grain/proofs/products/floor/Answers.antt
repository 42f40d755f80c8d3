use Rattle.grain.specs.Products.{floors}
use mathlib.Core.Path.{refl}
use Rattle.grain.proofs.products.floor.Goals as goal

pub returns : goal.returns
unfolding floors
returns c = refl
