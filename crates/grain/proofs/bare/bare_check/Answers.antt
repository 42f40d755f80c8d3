use mathlib.Core.Path.{◌≡◌, sym, ◌∙◌}
use mathlib.Core.Bool.{true, false}
use lib.Dec.{eqb}
use borrow.Author.Tests.{eq-eqb, ne_eqb}
use Rattle.grain.specs.Products.{tick_of}
use Rattle.grain.specs.Prices.{is_price, is_settlement}
use Rattle.grain.specs.Amounts.{is_fit_amount}
use Rattle.grain.specs.Bare.{bare_answer}
use Rattle.grain.proofs.bare.bare_check.Goals as goal
use Rattle.grain.proofs.bare.bare_check.Goals.{Else-not-is_fit_amount, Else-not-is_on_tick, Else-not-is_settlement, Else-tick-eq0}

-- Each return follows from the tests before it: `offered`, `settled`, `priced` and `fit` are what is known past each.

offered : (c : Else-tick-eq0) → eqb (tick_of c.args.product c.args.size) 0 ≡ false
offered c = ne_eqb _ _ (λ e. c.if-tick-eq0.false (c.tick-tick.ensures ∙ e))

settled : (c : Else-not-is_settlement)
    → let a = c.args in
    is_settlement a.product a.settlement ≡ true
settled c = sym c.is_settlement.ensures ∙ c.if-not-is_settlement.false

priced : (c : Else-not-is_on_tick)
    → let a = c.args in
    is_price a.product a.size a.price ≡ true
priced c =
    rw c.tick-tick.ensures
    at (sym c.is_on_tick.ensures ∙ c.if-not-is_on_tick.false)

fit : (c : Else-not-is_fit_amount)
    → let a = c.args in
    is_fit_amount a.product a.amount ≡ true
fit c = sym c.is_fit_amount.ensures ∙ c.if-not-is_fit_amount.false

pub returns-then-tick-eq0 : goal.returns-then-tick-eq0
unfolding bare_answer
returns-then-tick-eq0 c = simp (eq-eqb _ _ (sym c.tick-tick.ensures ∙ c.if-tick-eq0.true))

pub returns-then-not-is_settlement : goal.returns-then-not-is_settlement
unfolding bare_answer
returns-then-not-is_settlement c = simp (offered (goal.at.returns-then-not-is_settlement c).Else-tick-eq0, sym c.is_settlement.ensures ∙ c.if-not-is_settlement.true)

pub returns-then-not-is_on_tick : goal.returns-then-not-is_on_tick
unfolding bare_answer
returns-then-not-is_on_tick c =
    let off =
    rw c.tick-tick.ensures at (sym c.is_on_tick.ensures ∙ c.if-not-is_on_tick.true) in
    simp (offered (goal.at.returns-then-not-is_on_tick c).Else-tick-eq0, settled (goal.at.returns-then-not-is_on_tick c).Else-not-is_settlement, off)

pub returns-then-not-is_fit_amount : goal.returns-then-not-is_fit_amount
unfolding bare_answer
returns-then-not-is_fit_amount c =
    simp
    (offered (goal.at.returns-then-not-is_fit_amount c).Else-tick-eq0, settled (goal.at.returns-then-not-is_fit_amount c).Else-not-is_settlement, priced (goal.at.returns-then-not-is_fit_amount c).Else-not-is_on_tick, sym c.is_fit_amount.ensures ∙ c.if-not-is_fit_amount.true)

pub returns : goal.returns
unfolding bare_answer
returns c =
    simp
    (offered (goal.at.returns c).Else-tick-eq0, settled (goal.at.returns c).Else-not-is_settlement, priced (goal.at.returns c).Else-not-is_on_tick, fit (goal.at.returns c).Else-not-is_fit_amount, c.judge.ensures, c.tick-tick.ensures)
