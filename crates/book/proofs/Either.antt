-- One of two tests, of which the second is known.
use mathlib.Core.Path.{◌≡◌, refl}
use mathlib.Core.Bool.{Bool, true, false, ◌||◌}

pub second_holds : (a b : Bool) → b ≡ true → a || b ≡ true
second_holds true b e = refl
second_holds false b e = e

pub second_fails : (a b : Bool) → b ≡ false → a || b ≡ a
second_fails true b e = refl
second_fails false b e = e
