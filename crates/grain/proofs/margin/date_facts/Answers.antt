use native.Mathlib.Omega.{arith}
use mathlib.Core.Path.{sym, ◌∙◌}
use Rattle.grain.specs.Dates.{contract_month, season_number, days_remaining}
use Rattle.grain.specs.Margin.{date_facts}
use Rattle.grain.proofs.ValidDates.{ValidDate, valid_date}
use Rattle.grain.proofs.margin.date_facts.Goals as goal
use Rattle.grain.proofs.margin.date_facts.Goals.{Else-not-is_date}

valid : (c : Else-not-is_date)
    → ValidDate c.args.year c.args.month c.args.day
valid c = valid_date _ _ _ (sym c.is_date.ensures ∙ c.if-not-is_date.false)

pub returns-then-not-is_date : goal.returns-then-not-is_date
unfolding date_facts
returns-then-not-is_date c = simp (sym c.is_date.ensures ∙ c.if-not-is_date.true)

pub overflow_mul-at : goal.overflow_mul-at
overflow_mul-at c = omega (arith, valid c)

pub overflow_add-at : goal.overflow_add-at
overflow_add-at c = omega (arith, valid c)

pub overflow_sub-at : goal.overflow_sub-at
overflow_sub-at c = omega (arith, valid c)

pub overflow_sub-result : goal.overflow_sub-result
overflow_sub-result c = omega (arith, valid c)

pub overflow_sub-result-2 : goal.overflow_sub-result-2
overflow_sub-result-2 c = rw c.month_length.ensures (valid (goal.at.overflow_sub-result-2 c).Else-not-is_date).last_day

pub returns : goal.returns
unfolding date_facts contract_month season_number days_remaining
returns c = simp (sym c.is_date.ensures ∙ c.if-not-is_date.false, c.month_length.ensures)
