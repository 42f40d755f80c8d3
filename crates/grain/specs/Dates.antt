-- Dates: Gregorian, from 2000 to 2098.
use Rattle.std.specs.Prelude.{ℕ, ◌+◌, ◌-◌, ◌*◌, ◌/◌, ◌%◌, Bool, not, ◌&&◌, ◌||◌, cond, [], ◌∷◌, leb, eqb}
use Rattle.grain.specs.Lists.{is_in}

-- every fourth year, but of those that end a century only every fourth
unfoldable pub is_leap : ℕ → Bool
is_leap year = eqb (year % 4) 0 && (not (eqb (year % 100) 0) || eqb (year % 400) 0)

-- 30 days in April, June, September and November, 28 or 29 in February, 31 in the others; 0 where there is no such month
unfoldable pub month_length : ℕ → ℕ → ℕ
month_length year month =
    cond (not (leb 1 month && leb month 12)) 0
    (cond (is_in month (4 ∷ 6 ∷ 9 ∷ 11 ∷ [])) 30
    (cond (eqb month 2) (cond (is_leap year) 29 28)
    31))

unfoldable pub is_date : ℕ → ℕ → ℕ → Bool
is_date year month day =
    leb 2000 year && leb year 2098 && leb 1 month && leb month 12 && leb 1 day && leb day (month_length year month)

unfoldable pub contract_month : ℕ → ℕ → ℕ
contract_month year month = year * 12 + month - 1

-- of a contract month: May to October and November to April
unfoldable pub season_number : ℕ → ℕ
season_number month = (month - 4) / 6

-- calendar days of the month after the day
unfoldable pub days_remaining : ℕ → ℕ → ℕ → ℕ
days_remaining year month day = month_length year month - day
