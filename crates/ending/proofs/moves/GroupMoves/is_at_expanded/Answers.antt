use mathlib.Core.Path.{◌∙◌, ap}
use Rattle.std.specs.Prelude.{is_some}
use Rattle.record.specs.Move.{is_at_expanded}
use Rattle.ending.specs.Moves.{moves_in}
use Rattle.ending.proofs.Leads.{leading-any}
use Rattle.ending.proofs.moves.GroupMoves.is_at_expanded.Goals as goal

pub returns : goal.returns
returns c =
    c.is_some.ensures ∙ ap is_some c.leading.ensures ∙ leading-any is_at_expanded (moves_in c.args.self.now)
