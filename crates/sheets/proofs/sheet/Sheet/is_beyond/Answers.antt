use Rattle.std.proofs.Common.{rules}
use borrow.Author.Tests.{tests}
use Rattle.std.proofs.lemmas.Iterator.{YieldsList-from_slice}
use Rattle.std.proofs.lemmas.Iterator.Search.{any_from_yields_List}
use Rattle.grain.specs.Spot.{is_spot}
use Rattle.record.specs.Sheet.{has_moved_beyond, is_beyond}
use Rattle.sheets.specs.Sheets.{entries_of}
use Rattle.sheets.proofs.sheet.Sheet.is_beyond.Goals as goal

pub returns : goal.returns
unfolding is_beyond
returns c =
    any_from_yields_List
    (has_moved_beyond (is_spot c.args.date) c.args.limit (entries_of c.args.last.now)) _ _ _ c.any.ensures.ran (YieldsList-from_slice (entries_of c.args.self.now) cc)
    (λ x b q k. search (rules, tests))
