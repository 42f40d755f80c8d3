-- What a window gives: season limits where it is full.
use Rattle.std.proofs.Common.{◌≡◌, refl, ℕ, ◌<◌, Bool, true, false, cond, List, eqb, length, Result, Ok, Err}
use Rattle.std.specs.Prelude.{Some, None, is_some}
use Rattle.std.specs.Result.{result_ok}
use borrow.Author.Tests.{lt-ltb}
use Rattle.grain.specs.Lists.{every}
use Rattle.grain.specs.Prices.{is_settlement}
use Rattle.grain.specs.Amounts.{expanded_of, season_of}
use Rattle.grain.specs.declared.amounts.Limit.{Limit}
use Rattle.grain.specs.declared.refusals.Refusal.{Refusal}
use Rattle.grain.specs.declared.refusals.Refusal.TheVariants.{Misshapen}
use Rattle.grain.specs.Margin.{season_limits_as, season_limits}
use Rattle.grain.proofs.Outcomes.{season_limits_same}

module _ (p : ℕ) (window : List ℕ) (l : p < 8) (settled : every (is_settlement p) window ≡ true) where
  abbrev limits : Limit
  limits = record { initial = season_of p window; expanded = expanded_of p (season_of p window) }

  pub limits_given : (r : Result Limit Refusal) → season_limits_as r ≡ season_limits p window
      → result_ok r ≡ cond (eqb (length window) 45) (Some limits) None
  unfolding season_limits
  limits_given r e = go (eqb (length window) 45) refl
    where
      go : (full : Bool) → eqb (length window) 45 ≡ full → result_ok r ≡ cond (eqb (length window) 45) (Some limits) None
      go true f =
          let is = season_limits_same r (Ok limits) (rw (lt-ltb p 8 l, f, settled) at e) in
          rw (f, is)
      go false f =
          let is = season_limits_same r (Err Misshapen) (rw (lt-ltb p 8 l, f) at e) in
          rw (f, is)

pub given_where : (b : Bool) (limit : Limit) → is_some (cond b (Some limit) None) ≡ b
given_where true limit = refl
given_where false limit = refl
