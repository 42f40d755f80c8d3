use Rattle.std.proofs.Common.{arith}
use Rattle.opening.proofs.TrueDays.{season_small}
use Rattle.opening.proofs.seasons.SeasonChange.of.Goals as goal

pub overflow_add-result : goal.overflow_add-result
overflow_add-result c =
    let small = season_small c.in-Some.before (c.args.dates.now.last_true _ c.in-Some.is) in
    let is = c.season_of-season_before.ensures in
    omega arith
