use Rattle.record.specs.Sound.{is_sound_date}
use Rattle.book.proofs.soundness.is_sound_date.Goals as goal

pub returns-in-Some : goal.returns-in-Some
unfolding is_sound_date
returns-in-Some c = rw c.in-Some.is c.is_true_day.ensures

pub returns-in-None : goal.returns-in-None
unfolding is_sound_date
returns-in-None c = rw c.in-None.is
