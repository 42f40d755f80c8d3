use Rattle.std.proofs.Common.{◌≡◌, ◌+◌, ◌-◌, min, max, arith}
use Rattle.grain.specs.Check.{span_by}
use Rattle.grain.proofs.check.Span.by.Goals as goal

pub returns : goal.returns
unfolding span_by
returns c =
    let a = c.args in
    let low : c.max.result ≡ max a.tick (a.settlement - a.limit) = omega (arith, c.max.ensures, c.saturating_sub.ensures) in
    let high : c.min.result ≡ min 1000000 (a.settlement + a.limit) = omega (arith, c.min.ensures, c.saturating_add.ensures) in
    rw (low, high)
