use Rattle.std.proofs.Common.{sym, ◌∙◌}
use Rattle.book.proofs.soundness.is_mark_sound.Goals as goal

pub returns-then-not-is_marked : goal.returns-then-not-is_marked
returns-then-not-is_marked c = rw (sym c.is_marked.ensures ∙ c.if-not-is_marked.true)

pub returns-then-not-is_expanded : goal.returns-then-not-is_expanded
returns-then-not-is_expanded c = rw (sym c.is_marked.ensures ∙ c.if-not-is_marked.false, sym c.is_expanded.ensures ∙ c.if-not-is_expanded.true)

pub returns : goal.returns
returns c = rw (sym c.is_marked.ensures ∙ c.if-not-is_marked.false, sym c.is_expanded.ensures ∙ c.if-not-is_expanded.false)
