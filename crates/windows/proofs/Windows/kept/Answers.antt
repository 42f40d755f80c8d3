use Rattle.std.proofs.Common.{rules, sym, ◌∙◌, ap, min}
use Rattle.windows.proofs.Shown.{none_kept, kept_is}
use Rattle.windows.proofs.Windows.kept.Goals as goal

pub returns-then-p-ge-PRODUCT_COUNT : goal.returns-then-p-ge-PRODUCT_COUNT
returns-then-p-ge-PRODUCT_COUNT c = sym (none_kept c.args.self.now c.args.p (search rules) c.if-p-ge-PRODUCT_COUNT.true)

pub returns : goal.returns
returns c =
    kept_is c.args.self.now c.args.p (search rules) (search rules) c.if-p-ge-PRODUCT_COUNT.false c.min.result (c.min.ensures ∙ ap (λ n. min n 45) c.size.ensures)
