use Rattle.std.proofs.Common.{get_or}
use Rattle.book.specs.Book.{no_standing}
use Rattle.opening.proofs.Starts.{StartedTo}
use Rattle.opening.proofs.standings.standings_on.Given as goal

abbrev pub invariant-loop-p : goal.invariant-loop-p
invariant-loop-p l = StartedTo l.renewed (λ g. get_or l.initial.after g no_standing) l.p l.after
