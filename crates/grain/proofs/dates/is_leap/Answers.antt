use borrow.Author.Tests.{eq-eqb, ne_eqb}
use Rattle.grain.specs.Dates.{is_leap}
use Rattle.grain.proofs.dates.is_leap.Goals as goal

pub returns-then-year-ne0 : goal.returns-then-year-ne0
unfolding is_leap
returns-then-year-ne0 c = simp (ne_eqb _ _ c.if-year-ne0.true)

pub returns-then-year-ne0-2 : goal.returns-then-year-ne0-2
unfolding is_leap
returns-then-year-ne0-2 c = simp (eq-eqb _ _ c.if-year-ne0.false, ne_eqb _ _ c.if-year-ne0-2.true)

pub returns : goal.returns
unfolding is_leap
returns c = simp (eq-eqb _ _ c.if-year-ne0.false, eq-eqb _ _ c.if-year-ne0-2.false)
