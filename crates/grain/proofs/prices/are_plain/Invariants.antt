use Rattle.std.proofs.Common.{ℕ, ◌<◌}
use lib.ListN.{get_or}
use Rattle.grain.specs.Joined.{IsJoined}
use Rattle.grain.proofs.prices.are_plain.Given as goal

abbrev pub invariant-loop-price : goal.invariant-loop-price
invariant-loop-price l = (j : ℕ) → j < l.price-index → IsJoined l.tick l.joined (get_or l.prices j 0)
