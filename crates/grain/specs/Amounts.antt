-- Amounts. The rule calls a product's initial limit I and its expanded limit E.
use Rattle.std.specs.Prelude.{ℕ, ◌+◌, ◌-◌, ◌*◌, ◌/◌, ◌%◌, min, max, Bool, ◌&&◌, List, leb, eqb, sum}
use Rattle.grain.specs.Products.{is_product, step_of, floor_of}

-- no limit is larger
abbrev pub max_limit : ℕ
max_limit = 2000000

-- no limit that a book is founded on is larger
abbrev pub max_founding : ℕ
max_founding = 1000000

-- how many settlements make a season limit
abbrev pub window_length : ℕ
window_length = 45

-- E = I × 3/2 rounded up to a step, and never above 2,000,000
unfoldable pub expanded_by : ℕ → ℕ → ℕ
expanded_by step i = min max_limit (step * ((3 * i + (2 * step - 1)) / (2 * step)))

-- I = the larger of the floor and 7/4,500 of the sum rounded to a step, where a half goes up
unfoldable pub season_by : ℕ → ℕ → ℕ → ℕ
season_by step floor s = max floor (step * ((7 * s + 2250 * step) / (4500 * step)))

-- 0 where there is no such product
abbrev pub expanded_of : ℕ → ℕ → ℕ
expanded_of p i = expanded_by (step_of p) i

-- of the 45 settlements of a window
abbrev pub season_of : ℕ → List ℕ → ℕ
season_of p settlements = season_by (step_of p) (floor_of p) (sum settlements)

-- a multiple of the step, from the floor to most
unfoldable pub is_fit : ℕ → ℕ → ℕ → Bool
is_fit most p amount = is_product p && leb (floor_of p) amount && leb amount most && eqb (amount % step_of p) 0

abbrev pub is_fit_amount : ℕ → ℕ → Bool
is_fit_amount p amount = is_fit max_limit p amount

abbrev pub is_fit_founding : ℕ → ℕ → Bool
is_fit_founding p amount = is_fit max_founding p amount
