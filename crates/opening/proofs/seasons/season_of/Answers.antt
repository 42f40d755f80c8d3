use Rattle.std.proofs.Common.{◌≡◌, sym, ◌∙◌, Bool, true, false}
use Rattle.grain.proofs.FactsOfDates.{no_date_lem, dated}
use Rattle.record.proofs.TrueDays.{true_date}
use Rattle.opening.proofs.seasons.season_of.Goals as goal

pub returns-in-Ok : goal.returns-in-Ok
returns-in-Ok c =
    let d = c.args.d in
    (dated d.year d.month d.day _ (rw c.in-Ok.is at c.date_facts.ensures)).counts

pub returns-in-Err : goal.returns-in-Err
returns-in-Err c =
    let d = c.args.d in
    let no = no_date_lem d.year d.month d.day _ (rw c.in-Err.is at c.date_facts.ensures) in
    let z : ◌≡◌ {A = Bool} false true = sym no ∙ true_date d c.requires in
    cc
