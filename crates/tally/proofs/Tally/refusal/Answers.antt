use Rattle.std.proofs.Common.{sym, ◌∙◌}
use borrow.Author.Tests.{eq-eqb, ne_eqb}
use Rattle.tally.specs.Tally.{is_sound_tally, is_full, tally_refusal}
use Rattle.tally.proofs.Tally.refusal.Goals as goal

pub returns-then-asked-sum : goal.returns-then-asked-sum
unfolding tally_refusal is_sound_tally
returns-then-asked-sum c = simp (ne_eqb _ _ (λ e. c.if-asked-sum.true (e ∙ sym c.sum.ensures)))

pub returns-then-self : goal.returns-then-self
unfolding tally_refusal is_sound_tally is_full
returns-then-self c = simp (eq-eqb _ _ (c.if-asked-sum.false ∙ c.sum.ensures), eq-eqb _ _ c.if-self.true)

pub returns : goal.returns
unfolding tally_refusal is_sound_tally is_full
returns c = simp (eq-eqb _ _ (c.if-asked-sum.false ∙ c.sum.ensures), ne_eqb _ _ c.if-self.false)
