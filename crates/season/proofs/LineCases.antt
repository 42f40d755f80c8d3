-- Lines of text, computed.
use mathlib.Core.Path.{◌≡◌, refl}
use mathlib.Core.List.{[], ◌∷◌}
use Rattle.grain.specs.Margin.{refused, gives}
use Rattle.season.specs.LineText.{ascii, decimal_in, spaced, shown, line_text}

pub record LineCases : Type 0 where
  pub limits : line_text (gives (0 ∷ 440 ∷ 680 ∷ [])) ≡ ascii "0 440 680\n"
  pub misshapen : line_text (refused 6) ≡ ascii "refused 6\n"
  pub long : line_text (gives (7 ∷ 1999990 ∷ 4294967295 ∷ [])) ≡ ascii "7 1999990 4294967295\n"

pub cases : LineCases
unfolding shown line_text decimal_in spaced
cases = record { limits = refl; misshapen = refl; long = refl }
