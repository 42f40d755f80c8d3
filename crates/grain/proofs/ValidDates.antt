-- What a date that is one says of its numbers.
use Prim.Native.Nat.{ℕ, ◌≤◌}
use mathlib.Core.Path.{◌≡◌, refl}
use mathlib.Core.Bool.{Bool, true, false, ◌&&◌}
use native.Mathlib.Omega.{arith}
use lib.Dec.{leb}
use borrow.Author.Tests.{leb-true}
use Rattle.grain.specs.Dates.{is_leap, month_length, is_date}
use Rattle.grain.proofs.Below.{below}
use Rattle.grain.proofs.Tests.{&&-left, &&-right}

pub record ValidDate (year month day : ℕ) : Type 0 where
  pub first : 2000 ≤ year
  pub last : year ≤ 2098
  pub some_month : 1 ≤ month
  pub last_month : month ≤ 12
  pub some_day : 1 ≤ day
  pub last_day : day ≤ month_length year month

pub valid_date : (year month day : ℕ) → is_date year month day ≡ true → ValidDate year month day
unfolding is_date
valid_date year month day e =
    let a = leb 2000 year in
    let b = leb year 2098 in
    let c = leb 1 month in
    let d = leb month 12 in
    let f = leb 1 day in
    let g = leb day (month_length year month) in
    let e₅ = &&-left (a && b && c && d && f) g e in
    let e₄ = &&-left (a && b && c && d) f e₅ in
    let e₃ = &&-left (a && b && c) d e₄ in
    let e₂ = &&-left (a && b) c e₃ in
    record {
      first = leb-true _ _ (&&-left a b e₂);
      last = leb-true _ _ (&&-right a b e₂);
      some_month = leb-true _ _ (&&-right (a && b) c e₃);
      last_month = leb-true _ _ (&&-right (a && b && c) d e₄);
      some_day = leb-true _ _ (&&-right (a && b && c && d) f e₅);
      last_day = leb-true _ _ (&&-right (a && b && c && d && f) g e);
    }

month_short : (year month : ℕ) → month ≤ 12 → month_length year month ≤ 31
unfolding month_length
month_short year month l = leb-true _ _ (go (is_leap year) refl)
  where
    go : (leap : Bool) → is_leap year ≡ leap → leb (month_length year month) 31 ≡ true
    go true e = below 13 (λ m. leb (month_length year m) 31) (rw e) month (omega arith)
    go false e = below 13 (λ m. leb (month_length year m) 31) (rw e) month (omega arith)

pub day_small : (year month day : ℕ) → ValidDate year month day → day ≤ 31
day_small year month day is =
    let short = month_short year month is.last_month in
    let last = is.last_day in
    omega arith
