use Rattle.std.proofs.Common.{rules}
use borrow.Author.Tests.{tests}
use Rattle.std.proofs.lemmas.Iterator.{YieldsList-from_slice}
use Rattle.std.proofs.lemmas.Iterator.Search.{all_from_yields_List}
use Rattle.book.specs.Soundness.{is_there}
use Rattle.book.proofs.soundness.are_all_in.Goals as goal

pub returns : goal.returns
returns c = all_from_yields_List is_there _ _ _ c.all.ensures.ran (YieldsList-from_slice c.args.sheets.now cc) (λ x b q k. search (rules, tests))
