use Rattle.std.proofs.Common.{◌≡◌, refl, Bool, true, false, cond, not, eqb, Some, None}
use Rattle.std.specs.Option.{is_some}
use Rattle.sheets.specs.Sheets.{contracts_of, sheet_in}
use Rattle.sheets.proofs.sheet.Sheet.is_none.Goals as goal

pub returns : goal.returns
unfolding sheet_in
returns c = go (eqb c.args.self.now.count 0)
  where
    go : (b : Bool) → b ≡ not (is_some (cond b None (Some (contracts_of c.args.self.now))))
    go true = refl
    go false = refl
