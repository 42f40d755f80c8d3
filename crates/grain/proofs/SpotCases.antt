-- Spot contracts over a turn of the year, computed.
use Prim.Native.Nat.{ℕ}
use mathlib.Core.Path.{◌≡◌, refl}
use mathlib.Core.Bool.{true, false}
use lib.Dec.{leb}
use Rattle.grain.specs.Dates.{contract_month}
use Rattle.grain.specs.Spot.{is_spot}
use Rattle.grain.specs.declared.spot.TradeDate.{TradeDate}

abbrev dec24 : ℕ
dec24 = contract_month 2024 12

abbrev jan25 : ℕ
jan25 = contract_month 2025 1

abbrev feb25 : ℕ
feb25 = contract_month 2025 2

-- a date of a contract month, with its left
abbrev dated : ℕ → ℕ → TradeDate
dated month left = record { month = month; left = left }

pub record SpotCases : Type 0 where
  -- in December the next month is January of the next year: spot with at most one business day left
  pub january_with2 : is_spot (dated dec24 2) jan25 ≡ false
  pub january_with1 : is_spot (dated dec24 1) jan25 ≡ true
  pub january_with0 : is_spot (dated dec24 0) jan25 ≡ true
  -- February is not, and December itself is, whatever is left
  pub february : (left : ℕ) → is_spot (dated dec24 left) feb25 ≡ false
  pub december : (left : ℕ) → is_spot (dated dec24 left) dec24 ≡ true
  -- from the first of January on December and January are, whatever is left, and February with at most 1
  pub past_december : (left : ℕ) → is_spot (dated jan25 left) dec24 ≡ true
  pub own_january : (left : ℕ) → is_spot (dated jan25 left) jan25 ≡ true
  pub next_february : (left : ℕ) → is_spot (dated jan25 left) feb25 ≡ leb left 1

pub spot_cases : SpotCases
unfolding contract_month is_spot
spot_cases =
    record {
      january_with2 = refl;
      january_with1 = refl;
      january_with0 = refl;
      february = λ left. refl;
      december = λ left. refl;
      past_december = λ left. refl;
      own_january = λ left. refl;
      next_february = λ left. refl;
    }
