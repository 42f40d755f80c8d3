-- What the calendar's answer says of a date, from its contract.
use Prim.Native.Nat.{ℕ}
use Rattle.std.specs.Prelude.{Ok, Err}
use mathlib.Core.Path.{◌≡◌, refl}
use mathlib.Core.Bool.{Bool, true, false, not, cond}
use mathlib.Core.List.{[], ◌∷◌}
use Rattle.grain.specs.Dates.{is_date, contract_month, season_number, days_remaining}
use Rattle.grain.specs.Margin.{Outcome, refused, gives, date_facts_as, date_facts}
use Rattle.grain.specs.Refusals.{number_of}
use Rattle.grain.specs.declared.margin.DateFacts.{DateFacts}
use Rattle.grain.specs.declared.refusals.Refusal.{Refusal}

-- the parts of the answer
pub record Facts (year month day : ℕ) (f : DateFacts) : Type 0 where
  pub date : is_date year month day ≡ true
  pub falls : f.month ≡ contract_month year month
  pub counts : f.season ≡ season_number (contract_month year month)
  pub remains : f.remaining ≡ days_remaining year month day

module _ (year month day : ℕ) where
  abbrev values : Outcome
  values =
      gives (contract_month year month ∷ season_number (contract_month year month) ∷ days_remaining year month day ∷ [])

  pub no_date_lem : (r : Refusal) → date_facts_as (Err r) ≡ date_facts year month day → is_date year month day ≡ false
  unfolding date_facts
  no_date_lem r e = go (is_date year month day) e
    where
      go : (b : Bool) → refused (number_of r) ≡ cond (not b) (refused 3) values → b ≡ false
      go true e = let z : refused (number_of r) ≡ values = e in cc
      go false e = refl

  pub dated : (f : DateFacts) → date_facts_as (Ok f) ≡ date_facts year month day → Facts year month day f
  unfolding date_facts
  dated f e = go (is_date year month day) refl e
    where
      go : (b : Bool) → is_date year month day ≡ b
          → gives (f.month ∷ f.season ∷ f.remaining ∷ []) ≡ cond (not b) (refused 3) values
          → Facts year month day f
      go true t e =
          let z : gives (f.month ∷ f.season ∷ f.remaining ∷ []) ≡ values = e in
          record { date = t; falls = cc; counts = cc; remains = cc }
      go false t e =
          let z : gives (f.month ∷ f.season ∷ f.remaining ∷ []) ≡ refused 3 = e in
          record { date = cc; falls = cc; counts = cc; remains = cc }
