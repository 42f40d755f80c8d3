-- Tests over lists, and distances.
use Rattle.std.specs.Prelude.{ℕ, ◌+◌, ◌-◌, Bool, true, false, ◌&&◌, List, [], ◌∷◌, eqb, ltb}
use Rattle.std.specs.List.{list_any}

infixl 35 ◌and◌
-- both; it opens only where it is named, so that a proof finds its two sides
unfoldable pub ◌and◌ : Bool → Bool → Bool
true and b = b
false and b = false

module _ {A : Type 0} where
  -- each of the list passes the test
  unfoldable pub every : (A → Bool) → List A → Bool
  every f [] = true
  every f (a ∷ l) = f a and every f l

abbrev pub is_in : ℕ → List ℕ → Bool
is_in n l = list_any (eqb n) l

-- strictly ascending
unfoldable pub is_ascending : List ℕ → Bool
is_ascending [] = true
is_ascending (m ∷ []) = true
is_ascending (m ∷ n ∷ l) = ltb m n && is_ascending (n ∷ l)

-- how far two prices are apart, up or down
abbrev pub distance : ℕ → ℕ → ℕ
distance a b = (a - b) + (b - a)
