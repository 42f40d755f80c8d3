use Rattle.std.proofs.Common.{rules, arith, sym, ◌∙◌}
use borrow.Author.Tests.{eqb-true, lt-ltb, le-ltb}
use Rattle.grain.specs.Margin.{season_limits}
use Rattle.windows.specs.Windows.{size_in}
use Rattle.windows.proofs.Shown.{shown_fits, full_is}
use Rattle.windows.proofs.Windows.season_limits.Goals as goal

pub returns-then-p-ge-PRODUCT_COUNT : goal.returns-then-p-ge-PRODUCT_COUNT
unfolding season_limits
returns-then-p-ge-PRODUCT_COUNT c = rw (le-ltb _ 8 c.if-p-ge-PRODUCT_COUNT.true)

pub returns-then-not-is_full : goal.returns-then-not-is_full
unfolding season_limits
returns-then-not-is_full c =
    rw (lt-ltb c.args.p 8 c.if-p-ge-PRODUCT_COUNT.false, sym c.is_full.ensures ∙ c.if-not-is_full.true)

pub returns : goal.returns
returns c =
    let ws = c.args.self.now in
    let p = c.args.p in
    let size = eqb-true (size_in ws p) 45 (full_is ws p (search rules) (search rules) ∙ sym c.is_full.ensures ∙ c.if-not-is_full.false) in
    c.season_limits.ensures ∙ rw (shown_fits ws p (omega arith)) (rw c.kept.ensures)
