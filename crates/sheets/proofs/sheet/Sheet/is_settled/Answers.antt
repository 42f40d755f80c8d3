use Rattle.std.proofs.Common.{rules, sym, ◌∙◌}
use borrow.Author.Tests.{tests}
use Rattle.std.proofs.lemmas.Iterator.{YieldsList-from_slice}
use Rattle.std.proofs.lemmas.Iterator.Search.{all_from_yields_List}
use Rattle.grain.specs.Prices.{is_settlement}
use Rattle.record.specs.declared.Contract.{Contract}
use Rattle.grain.proofs.Chains.{every_map_is}
use Rattle.sheets.specs.Sheets.{entries_of}
use Rattle.sheets.proofs.sheet.Sheet.is_settled.Goals as goal

pub returns : goal.returns
returns c =
    let all = entries_of c.args.self.now in
    all_from_yields_List
    (λ (d : Contract). is_settlement c.args.product d.settlement) _ _ _ c.all.ensures.ran (YieldsList-from_slice all cc) (λ x b q k. search (rules, tests))
    ∙ sym (every_map_is (is_settlement c.args.product) (λ (d : Contract). d.settlement) all)
