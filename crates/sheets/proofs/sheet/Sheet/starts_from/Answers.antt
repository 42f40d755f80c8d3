use Rattle.std.proofs.Common.{rules, sym, ◌∙◌, leb}
use borrow.Author.Tests.{tests}
use Rattle.std.proofs.lemmas.Iterator.{YieldsList-from_slice}
use Rattle.std.proofs.lemmas.Iterator.Search.{all_from_yields_List}
use Rattle.record.specs.declared.Contract.{Contract}
use Rattle.grain.proofs.Chains.{every_map_is}
use Rattle.sheets.specs.Sheets.{entries_of}
use Rattle.sheets.proofs.sheet.Sheet.starts_from.Goals as goal

pub returns : goal.returns
returns c =
    let all = entries_of c.args.self.now in
    all_from_yields_List
    (λ (d : Contract). leb c.args.month d.month) _ _ _ c.all.ensures.ran (YieldsList-from_slice all cc) (λ x b q k. search (rules, tests))
    ∙ sym (every_map_is (leb c.args.month) (λ (d : Contract). d.month) all)
