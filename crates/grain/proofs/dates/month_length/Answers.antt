use native.Mathlib.Omega.{arith}
use borrow.Author.Tests.{lt-leb, le-leb}
use mathlib.Core.Path.{sym, ◌∙◌}
use Rattle.grain.specs.Dates.{month_length}
use Rattle.grain.proofs.Below.{by_cases}
use Rattle.grain.proofs.dates.month_length.Goals as goal

-- the formula is computed at each month, December first, so that a wrong one fails at its month; 2 and 0 do not come here

pub returns-then-month-eq0 : goal.returns-then-month-eq0
unfolding month_length
returns-then-month-eq0 c = simp c.if-month-eq0.true

pub returns-then-month-gt12 : goal.returns-then-month-gt12
unfolding month_length
returns-then-month-gt12 c = simp (le-leb 1 c.args.month (omega arith), lt-leb _ _ c.if-month-gt12.true)

pub returns-then-month-ne2 : goal.returns-then-month-ne2
unfolding month_length
returns-then-month-ne2 c =
    let month = c.args.month in
    by_cases _ month 13 (omega arith)
    (λ e. rw e) (λ e. rw e) (λ e. rw e) (λ e. rw e) (λ e. rw e) (λ e. rw e) (λ e. rw e) (λ e. rw e) (λ e. rw e) (λ e. rw e)
    (λ e. omega arith) (λ e. rw e) (λ e. omega arith)

pub returns-then-is_leap : goal.returns-then-is_leap
unfolding month_length
returns-then-is_leap c = rw (c.if-month-ne2.false, sym c.is_leap.ensures ∙ c.if-is_leap.true)

pub returns : goal.returns
unfolding month_length
returns c = rw (c.if-month-ne2.false, sym c.is_leap.ensures ∙ c.if-is_leap.false)
