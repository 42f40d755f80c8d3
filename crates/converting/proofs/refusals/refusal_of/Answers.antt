use Rattle.std.proofs.Common.{rules, sym}
use borrow.Author.Tests.{eq-eqb, ne_eqb}
use Rattle.converting.proofs.Conversions.{edition_decides, levels_decide}
use Rattle.converting.proofs.refusals.refusal_of.Goals as goal
use Rattle.converting.proofs.refusals.refusal_of.Goals.{else-b-eq-EDITION_2014-via-then-b-eq-EDITION_2014+else-has_expanded, else-b-eq-EDITION_2014-via-else-b-eq-EDITION_2014}

pub returns : goal.returns
returns c =
    let b = c.args.b.now in
    elim c.else-b-eq-EDITION_2014.branch [
      | else-b-eq-EDITION_2014-via-then-b-eq-EDITION_2014+else-has_expanded w ↦ rw (levels_decide b (search rules) c.in_ok-expect.ensures, eq-eqb b.edition 2014 w.if-b-eq-EDITION_2014.true, sym w.if-has_expanded.ensures)
      | else-b-eq-EDITION_2014-via-else-b-eq-EDITION_2014 w ↦ rw (edition_decides b c.in_ok-expect.ensures, ne_eqb b.edition 2014 w.if-b-eq-EDITION_2014.false)
    ]
