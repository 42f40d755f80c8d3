use Rattle.sheets.specs.Sheets.{sheet_in}
use Rattle.sheets.proofs.Defaults.{default_sheet}
use Rattle.sheets.proofs.sheet.Sheet.none.Goals as goal

pub returns-clause-value : goal.returns-clause-value
returns-clause-value c = default_sheet c.default.result c.default.ensures.0 c.default.ensures.1

pub returns-clause-none : goal.returns-clause-none
unfolding sheet_in
returns-clause-none c = rw (default_sheet c.default.result c.default.ensures.0 c.default.ensures.1)
