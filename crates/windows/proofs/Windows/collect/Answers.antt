use Rattle.std.proofs.Common.{rules, sym, ◌∙◌}
use borrow.Author.Tests.{leb-true}
use Rattle.windows.proofs.Collects.{no_product_lem, damaged, collects}
use Rattle.windows.proofs.Windows.collect.Goals as goal

pub returns-then-p-ge-PRODUCT_COUNT : goal.returns-then-p-ge-PRODUCT_COUNT
returns-then-p-ge-PRODUCT_COUNT c = no_product_lem c.args.self.now c.args.p c.args.settlement c.if-p-ge-PRODUCT_COUNT.true

pub returns-then-not-fits : goal.returns-then-not-fits
returns-then-not-fits c = damaged c.args.self.now c.args.p c.args.settlement (sym c.fits.ensures ∙ c.if-not-fits.true)

pub returns : goal.returns
returns c =
    let fits = leb-true _ _ (sym c.fits.ensures ∙ c.if-not-fits.false) in
    collects c.args.self.now c.args.p c.args.settlement c.put.result c.put.new.places (search rules) (search rules) c.if-p-ge-PRODUCT_COUNT.false c.put.ensures.long fits c.put.ensures.fits c.put.ensures.kept
