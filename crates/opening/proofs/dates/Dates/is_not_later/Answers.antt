use Rattle.std.proofs.Common.{refl, ◌∙◌}
use Rattle.std.proofs.lemmas.Cmp.{ranked}
use Rattle.record.proofs.TrueDays.{valid, day_small}
use Rattle.opening.proofs.DateOrder.{by_parts}
use Rattle.opening.proofs.dates.Dates.is_not_later.Goals as goal

pub returns : goal.returns
returns c =
    let b = c.in-Some.before in
    let d = c.args.self.now.day in
    let b_true = c.args.self.now.last_true b c.in-Some.is in
    let d_true = c.args.self.now.day_true in
    rw c.in-Some.is
    (c.le.ensures ∙
    by_parts d.year d.month d.day b.year b.month b.day (valid d d_true).last_month (valid b b_true).last_month (day_small d d_true) (day_small b b_true)
    _ _ _ (ranked d.year b.year _ refl) (ranked d.month b.month _ refl) (ranked d.day b.day _ refl))
