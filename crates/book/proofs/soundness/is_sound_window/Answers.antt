use Rattle.std.proofs.Common.{sym, ◌∙◌}
use borrow.Author.Tests.{leb-true, leb-false, le-leb}
use Rattle.grain.specs.Lists.{◌and◌}
use Rattle.windows.proofs.Shown.{shown_fits, shown_short, too_long}
use Rattle.book.proofs.soundness.is_sound_window.Goals as goal

pub returns-then-not-fits : goal.returns-then-not-fits
unfolding ◌and◌
returns-then-not-fits c = rw (too_long c.args.windows.now c.args.p (leb-false _ _ (sym c.fits.ensures ∙ c.if-not-fits.true)))

pub returns : goal.returns
unfolding ◌and◌
returns c =
    let ws = c.args.windows.now in
    let fits = sym c.fits.ensures ∙ c.if-not-fits.false in
    rw (le-leb _ _ (shown_short ws c.args.p (leb-true _ _ fits)), shown_fits ws c.args.p (leb-true _ _ fits))
    (rw (c.tick.ensures, c.kept.ensures) at c.are_on_tick.ensures)
