-- What an answer says of the refusal.
use Prim.Native.Nat.{ℕ}
use mathlib.Core.Path.{◌≡◌, refl}
use Rattle.std.specs.Prelude.{Option, Some, None}
use Rattle.record.specs.Record.{Accepted, refused, accepted, answer_by}

pub refused_with : (n : ℕ) (o : Option ℕ) (a : Accepted) → refused n ≡ answer_by o a → o ≡ Some n
refused_with n (Some m) a e = cc
refused_with n None a e = cc

pub accepted_with : (o : Option ℕ) (a b : Accepted) → accepted a ≡ answer_by o b → (o ≡ None) × (a ≡ b)
accepted_with (Some m) a b e = (cc, cc)
accepted_with None a b e = (refl, cc)
