use Rattle.std.proofs.Common.{◌≡◌, ◌∙◌, true}
use borrow.Author.Tests.{not-false}
use Rattle.windows.specs.Windows.{shown}
use Rattle.opening.proofs.FullWindows.{limits_given}
use Rattle.opening.proofs.renewal.new_limit.Goals as goal

pub returns : goal.returns
returns c =
    let a = c.args in
    let renews : a.change.renews ≡ true = not-false a.change.renews c.if-not-change.false in
    rw renews
    (c.ok.ensures.value ∙ limits_given a.p (shown a.windows.now a.p) c.requires.0 c.requires.1 c.season_limits.result c.season_limits.ensures)
