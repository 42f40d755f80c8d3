-- The two sides of a test that is both, or that is one of two, or that compares two.
use mathlib.Core.Path.{◌≡◌, refl}
use mathlib.Core.Bool.{Bool, true, false, ◌&&◌, ◌||◌, beq}
use Rattle.grain.specs.Lists.{◌and◌}

pub &&-left : (a b : Bool) → a && b ≡ true → a ≡ true
&&-left true b e = refl
&&-left false b e = e

pub &&-right : (a b : Bool) → a && b ≡ true → b ≡ true
&&-right true b e = e
&&-right false b e = let z : ◌≡◌ {A = Bool} false true = e in cc

pub &&-both : (a b : Bool) → a ≡ true → b ≡ true → a && b ≡ true
&&-both true b s t = t
&&-both false b s t = s

pub and_left : (a b : Bool) → a and b ≡ true → a ≡ true
unfolding ◌and◌
and_left true b e = refl
and_left false b e = e

pub and_right : (a b : Bool) → a and b ≡ true → b ≡ true
unfolding ◌and◌
and_right true b e = e
and_right false b e = let z : ◌≡◌ {A = Bool} false true = e in cc

pub both : (a b : Bool) → a ≡ true → b ≡ true → a and b ≡ true
unfolding ◌and◌
both true b s t = t
both false b s t = s

pub neither : (a b : Bool) → a || b ≡ false → (a ≡ false) × (b ≡ false)
neither true b e = (e, cc)
neither false b e = (refl, e)

-- two tests that are compared
pub beq_same : (a b : Bool) → beq a b ≡ true → a ≡ b
beq_same true true e = refl
beq_same true false e = let z : ◌≡◌ {A = Bool} false true = e in cc
beq_same false true e = e
beq_same false false e = refl
