-- The lengths of months and the dates that there are, computed at their edges; the length of every year.
use Prim.Native.Nat.{ℕ, ◌+◌}
use mathlib.Core.Path.{◌≡◌, refl}
use mathlib.Core.Bool.{Bool, true, false, cond}
use mathlib.Core.List.{[], ◌∷◌, map}
use Rattle.std.specs.Prelude.{sum}
use Rattle.grain.specs.Dates.{is_leap, month_length, is_date}

pub record DateCases : Type 0 where
  -- 31 and 30 days take turns up to July, and again from August on
  pub june : month_length 2024 6 ≡ 30
  pub july : month_length 2024 7 ≡ 31
  pub august : month_length 2024 8 ≡ 31
  pub september : month_length 2024 9 ≡ 30
  -- February of a common and of a leap year, and of the years that end a century
  pub common : month_length 2023 2 ≡ 28
  pub leap : month_length 2024 2 ≡ 29
  pub century : month_length 2100 2 ≡ 28
  pub fourth_century : month_length 2000 2 ≡ 29
  -- no such month
  pub before_january : month_length 2024 0 ≡ 0
  pub after_december : month_length 2024 13 ≡ 0
  -- the last day of a month, and the day after it
  pub april30 : is_date 2024 4 30 ≡ true
  pub april31 : is_date 2024 4 31 ≡ false
  pub august31 : is_date 2024 8 31 ≡ true
  pub august32 : is_date 2024 8 32 ≡ false
  pub february29 : is_date 2024 2 29 ≡ true
  pub february30 : is_date 2024 2 30 ≡ false
  pub common_february28 : is_date 2023 2 28 ≡ true
  pub common_february29 : is_date 2023 2 29 ≡ false
  -- the first and the last date, and those beside them
  pub last1999 : is_date 1999 12 31 ≡ false
  pub first2000 : is_date 2000 1 1 ≡ true
  pub last2098 : is_date 2098 12 31 ≡ true
  pub first2099 : is_date 2099 1 1 ≡ false

pub date_cases : DateCases
unfolding is_leap month_length is_date
date_cases =
    record {
      june = refl;
      july = refl;
      august = refl;
      september = refl;
      common = refl;
      leap = refl;
      century = refl;
      fourth_century = refl;
      before_january = refl;
      after_december = refl;
      april30 = refl;
      april31 = refl;
      august31 = refl;
      august32 = refl;
      february29 = refl;
      february30 = refl;
      common_february28 = refl;
      common_february29 = refl;
      last1999 = refl;
      first2000 = refl;
      last2098 = refl;
      first2099 = refl;
    }

-- the twelve months of any year make up its days
pub year-length : (year : ℕ)
    → sum (map (month_length year) (1 ∷ 2 ∷ 3 ∷ 4 ∷ 5 ∷ 6 ∷ 7 ∷ 8 ∷ 9 ∷ 10 ∷ 11 ∷ 12 ∷ [])) ≡ cond (is_leap year) 366 365
unfolding month_length
year-length year = go (is_leap year)
  where
    go : (leap : Bool) → 31 + (cond leap 29 28) + 31 + 30 + 31 + 30 + 31 + 31 + 30 + 31 + 30 + 31 ≡ cond leap 366 365
    go true = refl
    go false = refl
