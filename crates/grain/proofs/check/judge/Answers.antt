use mathlib.Core.Path.{sym}
use Rattle.grain.specs.Check.{verdict}
use Rattle.grain.proofs.Judged.{lies_within, is_below, is_above}
use Rattle.grain.proofs.check.judge.Goals as goal

pub returns-then-spot : goal.returns-then-spot
unfolding verdict
returns-then-spot c = rw c.if-spot.true

pub returns-then-price-limit : goal.returns-then-price-limit
returns-then-price-limit c = rw (c.if-spot.false, c.by-span.ensures) (sym (is_below _ _ _ _ c.if-price-limit.true))

pub returns-then-settlement-limit : goal.returns-then-settlement-limit
returns-then-settlement-limit c = rw (c.if-spot.false, c.by-span.ensures) (sym (is_above _ _ _ _ c.if-settlement-limit.true))

pub returns : goal.returns
returns c = rw (c.if-spot.false, c.by-span.ensures) (sym (lies_within _ _ _ _ c.if-price-limit.false c.if-settlement-limit.false))
