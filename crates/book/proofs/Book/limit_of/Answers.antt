use borrow.Author.Rules.{rules}
use mathlib.Core.Path.{sym, ◌∙◌}
use Rattle.book.proofs.TodaysLimit.{no_limit_lem, limit_is}
use Rattle.book.proofs.Book.limit_of.Goals as goal

pub returns-then-p-ge-PRODUCT_COUNT : goal.returns-then-p-ge-PRODUCT_COUNT
returns-then-p-ge-PRODUCT_COUNT c = sym (no_limit_lem c.args.self.now c.args.p c.if-p-ge-PRODUCT_COUNT.true)

pub returns-then-is_expanded : goal.returns-then-is_expanded
returns-then-is_expanded c = sym (limit_is c.args.self.now c.args.p (search rules) ∙ rw (← c.group_of.ensures, sym c.is_expanded.ensures ∙ c.if-is_expanded.true))

pub returns : goal.returns
returns c = sym (limit_is c.args.self.now c.args.p (search rules) ∙ rw (← c.group_of.ensures, sym c.is_expanded.ensures ∙ c.if-is_expanded.false))
