use Rattle.std.proofs.Common.{◌≡◌, rules, ◌∙◌, ap, eqb, arith}
use borrow.Author.Tests.{tests}
use Rattle.std.proofs.lemmas.Grind.{common_steps}
use Rattle.std.proofs.lemmas.Iterator.{YieldsList-from_slice}
use Rattle.std.proofs.lemmas.Iterator.Search.{find_from_yields_List}
use Rattle.std.specs.Option.{option_map, option_copied}
use Rattle.std.specs.List.{find}
use Rattle.record.specs.declared.Contract.{Contract}
use Rattle.sheets.specs.Sheets.{entries_of}
use Rattle.sheets.proofs.Lookups.{found_is}
use Rattle.sheets.proofs.sheet.Sheet.find.Goals as goal

pub returns : goal.returns
returns c =
    let all = entries_of c.args.self.now in
    let found : option_copied c.find.result ≡ find (λ (d : Contract). eqb d.month c.args.month) all =
    find_from_yields_List
    (λ (d : Contract). eqb d.month c.args.month) _ _ _ c.find.ensures.ran (YieldsList-from_slice all cc) (λ x b q k. search (rules, tests)) in
    let mapped : c.map.result ≡ option_map (λ (d : Contract). d.settlement) (option_copied c.find.result) = grind (arith, common_steps) in
    mapped ∙ ap (option_map (λ (d : Contract). d.settlement)) found ∙ found_is all c.args.month
