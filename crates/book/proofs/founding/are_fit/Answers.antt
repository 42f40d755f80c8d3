use Rattle.std.proofs.Common.{rules, sym, ◌∙◌, ℕ, Bool}
use borrow.Author.Tests.{tests}
use Rattle.std.proofs.lemmas.Iterator.{YieldsList-from_slice}
use Rattle.std.proofs.lemmas.Iterator.Consumers.{YieldsList-from_enumerate}
use Rattle.std.proofs.lemmas.Iterator.Search.{all_from_yields_List}
use Rattle.grain.specs.Amounts.{is_fit_founding}
use Rattle.book.proofs.Founded.{fit_is}
use Rattle.book.proofs.Items.{every_counted}
use Rattle.book.proofs.founding.are_fit.Goals as goal

abbrev test : ℕ × ℕ → Bool
test q = is_fit_founding q.0 q.1

pub returns : goal.returns
returns c =
    let limits = c.args.limits.now in
    all_from_yields_List test _ _ _ c.all.ensures.ran (YieldsList-from_enumerate (YieldsList-from_slice limits cc) cc) (λ x b q k. search (rules, tests))
    ∙ every_counted test 8 limits 0 (search rules)
    ∙ sym (fit_is limits (search rules))
