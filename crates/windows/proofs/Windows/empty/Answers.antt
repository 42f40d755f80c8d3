use Rattle.std.proofs.Common.{rules}
use Rattle.windows.proofs.Collects.{empties, none_empties}
use Rattle.windows.proofs.Windows.empty.Goals as goal

pub returns-then-p-ge-PRODUCT_COUNT : goal.returns-then-p-ge-PRODUCT_COUNT
returns-then-p-ge-PRODUCT_COUNT c = none_empties c.args.self.now c.args.p (search rules) c.if-p-ge-PRODUCT_COUNT.true

pub returns : goal.returns
returns c = empties c.args.self.now c.args.p (search rules) c.if-p-ge-PRODUCT_COUNT.false
