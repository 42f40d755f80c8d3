-- How many non-spot contracts are before a month: what one contract adds.
use Prim.Native.Nat.{ℕ, ◌+◌, ◌≤◌, ◌<◌}
use mathlib.Core.Path.{◌≡◌, refl, ◌∙◌}
use mathlib.Core.Bool.{Bool, true, false, cond}
use mathlib.Core.List.{List, ◌∷◌}
use native.Mathlib.Omega.{arith}
use borrow.Author.Tests.{lt-ltb, le-ltb}
use Rattle.record.specs.declared.Contract.{Contract}
use Rattle.std.proofs.lemmas.List.Sums.{sum_by-cons}
use Rattle.ending.specs.Search.{is_earlier, count_earlier}

module _ (spot : ℕ → Bool) (m : ℕ) (c : Contract) (s : List Contract) where
  pub count_spot : spot c.month ≡ true → count_earlier spot m (c ∷ s) ≡ count_earlier spot m s
  unfolding count_earlier
  count_spot e = rw e (omega arith)

  pub count_late : m ≤ c.month → count_earlier spot m (c ∷ s) ≡ count_earlier spot m s
  unfolding count_earlier
  count_late h = go (spot c.month) refl
    where
      go : (x : Bool) → spot c.month ≡ x → count_earlier spot m (c ∷ s) ≡ count_earlier spot m s
      go true e = rw e (omega arith)
      go false e = rw (e, le-ltb c.month m h) (omega arith)

  pub count_early : spot c.month ≡ false → c.month < m → count_earlier spot m (c ∷ s) ≡ 1 + count_earlier spot m s
  unfolding count_earlier
  count_early e h = sum_by-cons (λ d. cond (is_earlier spot m d) 1 0) c s ∙ rw (e, lt-ltb c.month m h)
