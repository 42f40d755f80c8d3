-- The text of a season line, as bytes.
use Rattle.std.specs.Prelude.{ℕ, zero, suc, ◌+◌, ◌/◌, ◌%◌, cond, List, [], ◌∷◌, ◌++◌, ltb}
use Prim.Native.Char.{code}
use Prim.Native.String.{String, [] as []ˢ, ◌∷◌ as ◌∷ˢ◌}
use Rattle.grain.specs.Margin.{Outcome, refused, gives}

-- the codes of a text's characters
abbrev pub ascii : String → List ℕ
ascii []ˢ = []
ascii (c ∷ˢ text) = code c ∷ ascii text

-- the decimal digits of a number that has at most k, with no zero in front; 48 is the code of 0
unfoldable pub decimal_in : ℕ → ℕ → List ℕ
decimal_in zero n = []
decimal_in (suc k) n = cond (ltb n 10) ((48 + n) ∷ []) (decimal_in k (n / 10) ++ ((48 + n % 10) ∷ []))

-- a 32-bit number has at most ten
abbrev pub decimal : ℕ → List ℕ
decimal n = decimal_in 10 n

-- single spaces between the numbers
unfoldable pub spaced : List ℕ → List ℕ
spaced [] = []
spaced (n ∷ []) = decimal n
spaced (n ∷ m ∷ ns) = decimal n ++ ascii " " ++ spaced (m ∷ ns)

-- the line without its end
unfoldable pub shown : Outcome → List ℕ
shown (gives values) = spaced values
shown (refused n) = ascii "refused " ++ decimal n

unfoldable pub line_text : Outcome → List ℕ
line_text o = shown o ++ ascii "\n"
