-- A tally that refuses answers its own number, whatever would be checked, and stays as it is.
use Rattle.std.proofs.Common.{◌≡◌, refl, ℕ, Option, Some}
use Rattle.std.specs.Option.{option_map}
use Rattle.grain.specs.declared.refusals.Refusal.{Refusal}
use Rattle.grain.specs.Refusals.{number_of}
use Rattle.tally.specs.declared.Tally.{Tally}
use Rattle.tally.specs.Tally.{tally_refusal}
use Rattle.tally.proofs.Answered.{uncounted}
use Rattle.gateway.specs.Tallied.{kind_of_number, Tallies}

pub refusing : (t : Tally) (r : Refusal) (o : Option Refusal) → option_map number_of o ≡ tally_refusal t → o ≡ Some r → (n : ℕ) → Tallies n t (number_of r) t
refusing t r o e is n = record { answer = rw (← e, is) refl; tally = uncounted t r o e is (kind_of_number n) }
