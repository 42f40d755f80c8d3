use Rattle.std.proofs.Common.{rules, ◌≡◌, refl, ◌∙◌, ℕ, ◌+◌, Option, None, Some}
use borrow.Author.Tests.{tests}
use lib.Dec.{ltb}
use Rattle.std.specs.Option.{option_map}
use Rattle.std.proofs.lemmas.Iterator.{YieldsList-from_range}
use Rattle.std.proofs.lemmas.Iterator.Search.{find_from_yields_List}
use Rattle.book.specs.Numbers.{products_before}
use Rattle.book.proofs.ProductsBefore.{found_group}
use Rattle.book.proofs.groups.group_of.Goals as goal

same : (r o : Option ℕ) → option_map (λ (x : ℕ). x) r ≡ o → r ≡ o
same None o e = e
same (Some x) o e = e

pub returns : goal.returns
returns c =
    let p = c.args.p in
    let found = find_from_yields_List (λ g. ltb p (products_before (g + 1))) _ _ _ c.find.ensures.ran (YieldsList-from_range 0 5 5 refl refl) (λ x b q k. search (rules, tests)) in
    c.unwrap_or.ensures ∙ rw (same _ _ found) (found_group p)
