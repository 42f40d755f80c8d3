use Rattle.grain.proofs.prices.is_settlement.Goals as goal

pub returns : goal.returns
returns c = rw (c.is_on_tick.ensures, c.tick.ensures)
