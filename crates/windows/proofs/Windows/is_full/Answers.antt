use Rattle.std.proofs.Common.{rules}
use Rattle.windows.proofs.Shown.{full_is}
use Rattle.windows.proofs.Windows.is_full.Goals as goal

pub returns : goal.returns
returns c = rw c.size.ensures (full_is c.args.self.now c.args.p (search rules) (search rules))
