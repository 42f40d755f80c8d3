use Rattle.std.proofs.Common.{◌≡◌, take}
use Rattle.std.specs.List.{list_all}
use Rattle.grain.specs.Prices.{is_on_tick}
use Rattle.grain.proofs.prices.are_each_on_tick.Given as goal

abbrev pub invariant-loop-price : goal.invariant-loop-price
invariant-loop-price l = l.all ≡ list_all (is_on_tick l.tick) (take l.price-index l.prices)
