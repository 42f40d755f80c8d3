use Rattle.std.proofs.Common.{arith}
use Rattle.std.proofs.lemmas.Grind.{common_steps}
use Rattle.grain.proofs.Chains.{every_is}
use Rattle.grain.proofs.prices.are_each_on_tick.Goals as goal

pub returns : goal.returns
returns c = grind (arith, common_steps, every_is)
