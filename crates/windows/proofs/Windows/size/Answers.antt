use Rattle.std.proofs.Common.{rules, sym}
use Rattle.windows.proofs.Shown.{no_size}
use Rattle.windows.proofs.Windows.size.Goals as goal

pub returns-then-p-ge-PRODUCT_COUNT : goal.returns-then-p-ge-PRODUCT_COUNT
returns-then-p-ge-PRODUCT_COUNT c = sym (no_size c.args.self.now c.args.p (search rules) c.if-p-ge-PRODUCT_COUNT.true)
