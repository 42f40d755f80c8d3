use Rattle.std.proofs.Common.{sym}
use Rattle.book.specs.Book.{view, view_common}
use Rattle.book.proofs.Phases.{unsound_phase, other_phase, own_phase}
use Rattle.book.proofs.Book.expect.Goals as goal

pub returns-then-not-is_sound : goal.returns-then-not-is_sound
returns-then-not-is_sound c = rw (unsound_phase c.args.is_open (view c.args.self.now) (sym c.if-not-is_sound.ensures))

pub returns-then-has_open_day-is_open : goal.returns-then-has_open_day-is_open
unfolding view view_common
returns-then-has_open_day-is_open c = sym (other_phase c.args.is_open (view c.args.self.now) (sym c.if-not-is_sound.ensures) (rw c.has_open_day.ensures at c.if-has_open_day-is_open.true))

pub returns : goal.returns
unfolding view view_common
returns c = sym (own_phase c.args.is_open (view c.args.self.now) (sym c.if-not-is_sound.ensures) (rw c.has_open_day.ensures at c.if-has_open_day-is_open.false))
