-- The sum of 45 settlements is small.
use Prim.Native.Nat.{ℕ, ◌*◌, ◌≤◌}
use mathlib.Core.Path.{◌≡◌}
use mathlib.Core.Bool.{true}
use mathlib.Core.List.{List, [], ◌∷◌}
use native.Mathlib.Omega.{arith}
use lib.ListN.{length}
use Rattle.std.specs.Prelude.{sum}
use Rattle.std.proofs.lemmas.List.Sums.{sum_by-cons}
use Rattle.grain.specs.Lists.{every}
use Rattle.grain.specs.Products.{tick_of}
use Rattle.grain.specs.Prices.{is_settlement}
use Rattle.grain.proofs.PriceFacts.{priced}
use Rattle.grain.proofs.Tests.{and_left, and_right}

pub sum_small : (p : ℕ) (xs : List ℕ) → every (is_settlement p) xs ≡ true → sum xs ≤ 1000000 * length xs
unfolding every
sum_small p [] e = omega arith
sum_small p (x ∷ xs) e =
    let h : x ≤ 1000000 = (priced (tick_of p 0) x (and_left _ _ e)).most in
    let t : sum xs ≤ 1000000 * length xs = sum_small p xs (and_right _ _ e) in
    omega (arith, sum_by-cons (λ n. n) x xs)
