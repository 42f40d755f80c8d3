-- The tests of a list as chains of iterators answer them.
use Rattle.std.proofs.Common.{◌≡◌, refl, ℕ, Bool, true, false, List, [], ◌∷◌, ◌&&◌, map}
use Rattle.std.specs.List.{list_all}
use Rattle.grain.specs.Lists.{◌and◌, every}

and_is : {r s : Bool} (b : Bool) → r ≡ s → b and r ≡ (b && s)
unfolding ◌and◌
and_is true e = e
and_is false e = refl

pub every_is : {A : Type 0} (f : A → Bool) (l : List A) → every f l ≡ list_all f l
unfolding every
every_is f [] = refl
every_is f (a ∷ l) = and_is (f a) (every_is f l)

-- of a number of each
pub every_map_is : {A : Type 0} (f : ℕ → Bool) (of : A → ℕ) (l : List A) → every f (map of l) ≡ list_all (λ a. f (of a)) l
unfolding every
every_map_is f of [] = refl
every_map_is f of (a ∷ l) = and_is (f (of a)) (every_map_is f of l)
