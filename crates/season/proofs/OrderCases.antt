-- The order of a season file's refusals, computed from its bytes: each file is wrong in all that is tested after what refuses it.
use Prim.Native.Nat.{ℕ, zero, suc, ◌+◌, ◌/◌, ◌%◌}
use mathlib.Core.Path.{◌≡◌, refl}
use mathlib.Core.List.{List, [], ◌∷◌, ◌++◌}
use lib.ListN.{replicate, take}
use Rattle.grain.specs.Lists.{◌and◌, every, is_ascending}
use Rattle.grain.specs.Products.{steps, floors, standard_ticks, tick_of}
use Rattle.grain.specs.Prices.{is_on_tick}
use Rattle.grain.specs.Amounts.{expanded_by, season_by}
use Rattle.grain.specs.Dates.{is_leap, month_length, is_date}
use Rattle.grain.specs.Margin.{refused, gives}
use Rattle.season.specs.SeasonFile.{word_at, words_from, is_misshapen, is_date_word, season_line}

-- the bytes of 32-bit words, little-endian
abbrev bytes_of : List ℕ → List ℕ
bytes_of [] = []
bytes_of (w ∷ ws) = w % 256 ∷ w / 256 % 256 ∷ w / 65536 % 256 ∷ w / 16777216 ∷ bytes_of ws

-- product, count, dates, settlements
abbrev file_of : ℕ → ℕ → List ℕ → List ℕ → List ℕ
file_of product count dates settlements = bytes_of (product ∷ count ∷ dates ++ settlements)

-- so many words in a row, from one on
abbrev days : ℕ → ℕ → List ℕ
days zero word = []
days (suc n) word = word ∷ days n (word + 1)

-- June and half of July 2024
abbrev true_dates : List ℕ
true_dates = days 30 20240601 ++ days 15 20240701

-- the same with a 31st of June
abbrev with_false : List ℕ
with_false = days 31 20240601 ++ days 14 20240701

-- true dates, of which those of July stand first
abbrev falling : List ℕ
falling = days 15 20240701 ++ days 30 20240601

-- a 31st of June, and those of July stand first
abbrev false_falling : List ℕ
false_falling = days 14 20240701 ++ days 31 20240601

-- the last is off Corn's tick
abbrev off_tick : List ℕ
off_tick = replicate 44 6000 ++ 6001 ∷ []

pub record OrderCases : Type 0 where
  -- 6 before 5: under 8 bytes, a byte too short, a byte too long, and 44 dates and settlements in the length that they have
  pub under8 : season_line (8 ∷ 0 ∷ 0 ∷ 0 ∷ 45 ∷ 0 ∷ 0 ∷ []) ≡ refused 6
  pub too_short : season_line (take 367 (file_of 8 45 false_falling off_tick)) ≡ refused 6
  pub too_long : season_line (file_of 8 45 false_falling off_tick ++ 0 ∷ []) ≡ refused 6
  pub count44 : season_line (file_of 8 44 (days 44 20240601) (replicate 44 6001)) ≡ refused 6
  -- 5 before 3
  pub no_product : season_line (file_of 8 45 false_falling off_tick) ≡ refused 5
  -- 3 before 8: a date that is none, and dates that do not ascend
  pub false_date : season_line (file_of 0 45 with_false off_tick) ≡ refused 3
  pub dates_fall : season_line (file_of 0 45 falling off_tick) ≡ refused 3
  -- a bad settlement alone
  pub bad_settlement : season_line (file_of 0 45 true_dates off_tick) ≡ refused 8
  -- Corn and 45 settlements of 6,000
  pub good : season_line (file_of 0 45 true_dates (replicate 45 6000)) ≡ gives (0 ∷ 440 ∷ 680 ∷ [])

pub cases : OrderCases
unfolding season_line is_misshapen word_at words_from is_date_word is_date month_length is_leap every ◌and◌ is_ascending is_on_tick tick_of standard_ticks steps floors season_by expanded_by
cases =
    record {
      under8 = refl;
      too_short = refl;
      too_long = refl;
      count44 = refl;
      no_product = refl;
      false_date = refl;
      dates_fall = refl;
      bad_settlement = refl;
      good = refl;
    }
