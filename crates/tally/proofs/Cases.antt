-- Single tallies, computed.
use mathlib.Core.Path.{◌≡◌, refl}
use Rattle.std.specs.Prelude.{Some, None}
use Rattle.tally.specs.Tally.{is_sound_tally, is_full, tally_refusal}
use Rattle.tally.specs.Through.{no_counts}

-- six zeros take a check
pub fresh : tally_refusal no_counts ≡ None
unfolding tally_refusal is_sound_tally is_full
fresh = refl

-- a sum of 4,294,967,296 is not 0: 32 bits would not see it
pub wrapped : tally_refusal (record { asked = 0; free = 4294967295; within = 1; below = 0; above = 0; refused = 0 }) ≡ Some 1
unfolding tally_refusal is_sound_tally is_full
wrapped = refl

pub full : tally_refusal (record { asked = 4294967295; free = 4294967290; within = 1; below = 1; above = 1; refused = 2 }) ≡ Some 15
unfolding tally_refusal is_sound_tally is_full
full = refl

-- 1 before 15
pub unsound_and_full : tally_refusal (record { asked = 4294967295; free = 0; within = 0; below = 0; above = 0; refused = 0 }) ≡ Some 1
unfolding tally_refusal is_sound_tally is_full
unsound_and_full = refl

-- the last check that a tally takes
pub last : tally_refusal (record { asked = 4294967294; free = 0; within = 0; below = 0; above = 0; refused = 4294967294 }) ≡ None
unfolding tally_refusal is_sound_tally is_full
last = refl
