use Rattle.std.proofs.Common.{rules}
use borrow.Author.Tests.{tests}
use Rattle.std.proofs.lemmas.Iterator.{YieldsList-from_slice}
use Rattle.std.proofs.lemmas.Iterator.Search.{any_from_yields_List}
use Rattle.grain.specs.Spot.{is_spot}
use Rattle.record.specs.Sheet.{is_absent, lacks_contract}
use Rattle.sheets.specs.Sheets.{entries_of}
use Rattle.sheets.proofs.sheet.Sheet.lacks_contract.Goals as goal

pub returns : goal.returns
unfolding lacks_contract
returns c =
    any_from_yields_List
    (is_absent (is_spot c.args.date) (entries_of c.args.self.now)) _ _ _ c.any.ensures.ran (YieldsList-from_slice (entries_of c.args.last.now) cc)
    (λ x b q k. search (rules, tests))
