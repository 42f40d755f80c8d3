-- What a check through a tally says, told of the answers of a call that returns them in its own way.
use Rattle.std.proofs.Common.{◌≡◌, sym, ◌∙◌, ap, ℕ, Option, Some, None, Result, Ok, Err}
use Rattle.std.specs.Prelude.{MatchOption, unwrap_or}
use Rattle.std.specs.Option.{option_map}
use Rattle.grain.specs.declared.check.Verdict.{Verdict}
use Rattle.grain.specs.declared.refusals.Refusal.{Refusal}
use Rattle.grain.specs.Refusals.{number_of}
use Rattle.tally.specs.declared.Tally.{Tally}
use Rattle.tally.specs.declared.kinds.Kind.{Kind}
use Rattle.tally.specs.Tally.{kind_of, tally_refusal, counted, IsRefusedWith}

-- shown is how the call returns a check's result, refused a refusal's number, and counted_as what its answers are counted as
module _ {A : Type 0} (shown : Result Verdict Refusal → A) where
  module _ (refused : ℕ → A) (refuses : (r : Refusal) → shown (Err r) ≡ refused (number_of r)) where
    refused_with : (n : ℕ) (r : Result Verdict Refusal) → IsRefusedWith n r → shown r ≡ refused n
    refused_with n (Ok v) h = absurd h
    refused_with n (Err r) h = refuses r ∙ ap refused h

    -- p is the check's result without a tally, shown as a, and r the result through the tally t
    pub answered : (t : Tally) (p r : Result Verdict Refusal) (a : A) → shown p ≡ a
        → MatchOption (tally_refusal t) (r ≡ p) (λ n. IsRefusedWith n r) → shown r ≡ unwrap_or (option_map refused (tally_refusal t)) a
    answered t p r a is h = go (tally_refusal t) h
      where
        go : (o : Option ℕ) → MatchOption o (r ≡ p) (λ n. IsRefusedWith n r) → shown r ≡ unwrap_or (option_map refused o) a
        go None e = ap shown e ∙ is
        go (Some n) e = refused_with n r e

  pub tallied : (counted_as : A → Kind) → ((r : Result Verdict Refusal) → counted_as (shown r) ≡ kind_of r) → (t u : Tally)
      (p : Result Verdict Refusal) (a : A) → shown p ≡ a → u ≡ counted t (kind_of p) → u ≡ counted t (counted_as a)
  tallied counted_as same_kind t u p a is h = h ∙ ap (counted t) (sym (same_kind p) ∙ ap counted_as is)

-- a tally that refuses stays as it is, whatever would be counted
pub uncounted : (t : Tally) (r : Refusal) (o : Option Refusal) → option_map number_of o ≡ tally_refusal t → o ≡ Some r → (k : Kind) → t ≡ counted t k
unfolding counted
uncounted t r o e is k = rw (← e, is)
