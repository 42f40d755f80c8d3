use Rattle.std.proofs.Common.{sym, ◌∙◌, ap}
use Rattle.std.specs.Option.{option_copied}
use Rattle.sheets.specs.Sheets.{entries_of}
use Rattle.filing.proofs.Plain.{passes}
use Rattle.filing.proofs.refusals.passes_plainly.Goals as goal

pub returns-then-date-nearest : goal.returns-then-date-nearest
returns-then-date-nearest c =
    λ e. passes c.args.b.now c.args.p c.requires.0 c.requires.1 (entries_of c.args.s.now) c.in-Some.nearest.now
    (sym (ap option_copied c.in-Some.is) ∙ rw c.entries.ensures at c.first.ensures.value)
    (rw c.requires.2 at c.if-date-nearest.true)
    (rw c.limit_of.ensures at (c.is_plainly_after.ensures e))
