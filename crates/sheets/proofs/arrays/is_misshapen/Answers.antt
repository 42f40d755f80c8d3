use Rattle.std.proofs.Common.{sym, ◌∙◌}
use borrow.Author.Tests.{eq-eqb, ne_eqb}
use Rattle.record.specs.Sheet.{is_misshapen}
use Rattle.sheets.proofs.arrays.is_misshapen.Goals as goal

pub returns-then-months-settlements : goal.returns-then-months-settlements
unfolding is_misshapen
returns-then-months-settlements c = simp (ne_eqb _ _ c.if-months-settlements.true)

pub returns-then-is_empty : goal.returns-then-is_empty
unfolding is_misshapen
returns-then-is_empty c = rw (eq-eqb _ _ c.if-months-settlements.false, sym c.is_empty.ensures ∙ c.if-is_empty.true)

pub returns : goal.returns
unfolding is_misshapen
returns c = rw (eq-eqb _ _ c.if-months-settlements.false, sym c.is_empty.ensures ∙ c.if-is_empty.false)
