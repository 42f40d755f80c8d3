-- The marked numbers, proved.
use mathlib.Core.Path.{refl}
use Rattle.grain.specs.Margin.{season_limits}
use Rattle.record.specs.Marked.{Marked}
use Rattle.record.proofs.Examples.{state_of, in_one_run}

pub marked : Marked
unfolding state_of season_limits
marked =
    record {
      a = refl;
      b = refl;
      c = refl;
      d = refl;
      e = refl;
      f = refl;
      g = refl;
      h₁ = refl;
      h₂ = refl;
      h₃ = refl;
      h₄ = refl;
      i = in_one_run _ _ _ _ refl;
      j = in_one_run _ _ _ _ refl;
      k = in_one_run _ _ _ _ refl;
      l = in_one_run _ _ _ _ refl;
      m = in_one_run _ _ _ _ refl;
      n₁ = in_one_run _ _ _ _ refl;
      n₂ = refl;
    }
