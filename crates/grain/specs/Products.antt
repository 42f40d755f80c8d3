-- The product table, a list for each column. The products in their order, 0 to 7:
-- Corn, Soybeans, Soybean Oil, Soybean Meal, Chicago Wheat, KC Wheat, Oats, Rough Rice.
use Rattle.std.specs.Prelude.{ℕ, ◌+◌, ◌%◌, Bool, not, cond, List, [], ◌∷◌, ltb, eqb, get_or}
use Rattle.grain.specs.Lists.{is_in}

-- how many products there are
abbrev pub product_count : ℕ
product_count = 8

-- limits are multiples of the step, in units of the product's price
unfoldable pub steps : List ℕ
steps = 40 ∷ 40 ∷ 50 ∷ 50 ∷ 40 ∷ 40 ∷ 40 ∷ 10 ∷ []

-- the least initial limit
unfoldable pub floors : List ℕ
floors = 160 ∷ 400 ∷ 200 ∷ 200 ∷ 240 ∷ 240 ∷ 160 ∷ 100 ∷ []

-- N: how many of the first listed non-spot contracts can trigger
unfoldable pub firsts : List ℕ
firsts = 5 ∷ 7 ∷ 8 ∷ 8 ∷ 5 ∷ 5 ∷ 5 ∷ 6 ∷ []

-- the last month of the crop year, January being 1
unfoldable pub last_crop_months : List ℕ
last_crop_months = 9 ∷ 8 ∷ 9 ∷ 9 ∷ 5 ∷ 5 ∷ 5 ∷ 7 ∷ []

unfoldable pub standard_ticks : List ℕ
standard_ticks = 2 ∷ 2 ∷ 1 ∷ 1 ∷ 2 ∷ 2 ∷ 2 ∷ 1 ∷ []

-- 0 where no mini is offered
unfoldable pub mini_ticks : List ℕ
mini_ticks = 1 ∷ 1 ∷ 0 ∷ 0 ∷ 1 ∷ 0 ∷ 0 ∷ 0 ∷ []

-- months traded, January being 1
unfoldable pub grain_months : List ℕ
grain_months = 3 ∷ 5 ∷ 7 ∷ 9 ∷ 12 ∷ []

unfoldable pub soybean_months : List ℕ
soybean_months = 1 ∷ 3 ∷ 5 ∷ 7 ∷ 8 ∷ 9 ∷ 11 ∷ []

unfoldable pub oil_and_meal_months : List ℕ
oil_and_meal_months = 1 ∷ 3 ∷ 5 ∷ 7 ∷ 8 ∷ 9 ∷ 10 ∷ 12 ∷ []

unfoldable pub rice_months : List ℕ
rice_months = 1 ∷ 3 ∷ 5 ∷ 7 ∷ 9 ∷ 11 ∷ []

unfoldable pub months_traded : List (List ℕ)
months_traded =
    grain_months
    ∷ soybean_months
    ∷ oil_and_meal_months
    ∷ oil_and_meal_months
    ∷ grain_months
    ∷ grain_months
    ∷ grain_months
    ∷ rice_months
    ∷ []

abbrev pub is_product : ℕ → Bool
is_product p = ltb p product_count

-- 0 where there is no such product, here and in the next three
abbrev pub step_of : ℕ → ℕ
step_of p = get_or steps p 0

abbrev pub floor_of : ℕ → ℕ
floor_of p = get_or floors p 0

abbrev pub first_of : ℕ → ℕ
first_of p = get_or firsts p 0

abbrev pub last_crop_month_of : ℕ → ℕ
last_crop_month_of p = get_or last_crop_months p 0

-- size 0 is standard, 1 is mini; 0 where the product or the size is not offered
unfoldable pub tick_of : ℕ → ℕ → ℕ
tick_of p size = cond (eqb size 0) (get_or standard_ticks p 0) (cond (eqb size 1) (get_or mini_ticks p 0) 0)

abbrev pub is_offered : ℕ → ℕ → Bool
is_offered p size = not (eqb (tick_of p size) 0)

-- the calendar month of a contract month, which is year × 12 + month − 1
abbrev pub calendar_month : ℕ → ℕ
calendar_month month = month % 12 + 1

-- the product trades in the calendar month of a contract month
unfoldable pub is_traded : ℕ → ℕ → Bool
is_traded p month = is_in (calendar_month month) (get_or months_traded p [])

-- a contract month is the last of its product's crop year
unfoldable pub is_last_crop_month : ℕ → ℕ → Bool
is_last_crop_month p month = eqb (calendar_month month) (last_crop_month_of p)
