-- Whether a book is sound is a call's first test: an unsound one refuses.
use mathlib.Core.Path.{◌≡◌}
use mathlib.Core.Bool.{false}
use Rattle.std.specs.Prelude.{Some}
use Rattle.record.specs.Refusals.{unsound}
use Rattle.record.specs.State.{Record}
use Rattle.record.specs.Sound.{is_sound}
use Rattle.record.specs.Record.{Call, refusal}

pub unsound-refusal : (r : Record) (c : Call) → is_sound r ≡ false → refusal r c ≡ Some unsound
unfolding refusal
unsound-refusal r c t = rw t
