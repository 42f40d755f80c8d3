use mathlib.Core.Path.{sym, ◌∙◌}
use borrow.Author.Tests.{lt-leb, le-leb}
use Rattle.grain.specs.Lists.{◌and◌}
use Rattle.sheets.proofs.tests.is_sound_contract.Goals as goal

pub returns-then-contract-from : goal.returns-then-contract-from
unfolding ◌and◌
returns-then-contract-from c = rw (lt-leb _ _ c.if-contract-from.true)

pub returns-then-not-is_traded : goal.returns-then-not-is_traded
unfolding ◌and◌
returns-then-not-is_traded c = rw (le-leb _ _ c.if-contract-from.false, sym c.is_traded.ensures ∙ c.if-not-is_traded.true)

pub returns : goal.returns
unfolding ◌and◌
returns c = rw (le-leb _ _ c.if-contract-from.false, sym c.is_traded.ensures ∙ c.if-not-is_traded.false) c.is_on_tick.ensures
