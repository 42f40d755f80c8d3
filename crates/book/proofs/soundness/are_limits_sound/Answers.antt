use Rattle.std.proofs.Common.{rules, ◌∙◌, ℕ, Bool}
use borrow.Author.Tests.{tests}
use Rattle.std.proofs.lemmas.Iterator.{YieldsList-from_slice}
use Rattle.std.proofs.lemmas.Iterator.Consumers.{YieldsList-from_enumerate}
use Rattle.std.proofs.lemmas.Iterator.Search.{all_from_yields_List}
use Rattle.grain.specs.declared.amounts.Limit.{Limit}
use Rattle.book.specs.Book.{no_limit}
use Rattle.book.specs.Soundness.{is_sound_limit}
use Rattle.book.proofs.Items.{every_counted}
use Rattle.book.proofs.soundness.are_limits_sound.Goals as goal

abbrev test : ℕ × Limit → Bool
test q = is_sound_limit q.0 q.1

pub returns : goal.returns
returns c =
    let limits = c.args.limits.now in
    all_from_yields_List test _ _ _ c.all.ensures.ran (YieldsList-from_enumerate (YieldsList-from_slice limits cc) cc) (λ x b q k. search (rules, tests))
    ∙ every_counted test 8 limits no_limit (search rules)
