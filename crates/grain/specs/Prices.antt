-- Prices and settlements: from 1 to 1,000,000, on the tick.
use Rattle.std.specs.Prelude.{ℕ, ◌%◌, Bool, not, ◌&&◌, leb, eqb}
use Rattle.grain.specs.Products.{tick_of}

-- prices and settlements run from 1 to it
abbrev pub max_price : ℕ
max_price = 1000000

-- no price is on a tick of 0, which stands for a size that is not offered
unfoldable pub is_on_tick : ℕ → ℕ → Bool
is_on_tick tick x = not (eqb tick 0) && leb 1 x && leb x max_price && eqb (x % tick) 0

abbrev pub is_price : ℕ → ℕ → ℕ → Bool
is_price p size x = is_on_tick (tick_of p size) x

-- a settlement is on the standard tick, for a mini too
abbrev pub is_settlement : ℕ → ℕ → Bool
is_settlement p x = is_price p 0 x
