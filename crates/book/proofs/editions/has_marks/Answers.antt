use mathlib.Core.Path.{◌≡◌, refl}
use mathlib.Core.Bool.{Bool, true, false, not, cond}
use lib.Dec.{eqb}
use Rattle.record.specs.Edition.{of2014, of2023, conditions_of}
use Rattle.book.proofs.editions.has_marks.Goals as goal

marks : (old : Bool) → not old ≡ (cond old of2014 of2023).has_marks
marks true = refl
marks false = refl

pub returns : goal.returns
unfolding conditions_of
returns c = marks (eqb c.args.edition 2014)
