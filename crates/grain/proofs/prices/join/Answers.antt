use native.Mathlib.Omega.{arith}
use Rattle.grain.proofs.Joins.{joins_now, joins_still}
use Rattle.grain.proofs.prices.join.Goals as goal

pub returns-clause-now : goal.returns-clause-now
returns-clause-now c = joins_now c.args.tick c.args.joined _ c.args.price (omega (arith, c.ranges.price.fits, c.ranges.tick.fits))

pub returns-clause-still : goal.returns-clause-still
returns-clause-still c = λ x l. joins_still c.args.tick c.args.joined _ x l
