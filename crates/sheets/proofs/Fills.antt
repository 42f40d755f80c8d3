-- How many contracts two lists make.
use Prim.Native.Nat.{ℕ, min}
use mathlib.Core.Path.{◌≡◌}
use mathlib.Core.List.{List, [], ◌∷◌}
use native.Mathlib.Omega.{arith}
use lib.ListN.{length}
use Rattle.record.specs.Sheet.{contracts}

pub contracts-length : (ms ss : List ℕ) → length (contracts ms ss) ≡ min (length ms) (length ss)
contracts-length [] ss = omega arith
contracts-length (m ∷ ms) [] = omega arith
contracts-length (m ∷ ms) (s ∷ ss) = let h = contracts-length ms ss in omega arith
