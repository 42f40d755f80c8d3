-- What refuses a conversion of a book from the edition of 2014 to that of 2023; that nothing but its edition changes stands in Record.antt.
use Rattle.std.specs.Prelude.{Bool, ◌&&◌, List, [], ◌∷◌, eqb}
use Rattle.std.specs.List.{list_any}
use Rattle.record.specs.Refusals.{Test, when, wrong_phase, group_expanded}
use Rattle.record.specs.State.{Group, Record}
use Rattle.record.specs.Sound.{is_expanded}

abbrev pub has_expanded : List Group → Bool
has_expanded gs = list_any (λ g. is_expanded g.level) gs

-- the refusals after 1, in their order; the expanded level means another thing under each edition
unfoldable pub conversion_tests : Record → List Test
conversion_tests r =
    when r.common.is_open wrong_phase
    ∷ when (eqb r.common.edition 2014 && has_expanded r.groups) group_expanded
    ∷ []
