-- Dates in order by year, month and day are in order by their numbers.
use Rattle.std.proofs.Common.{◌≡◌, ℕ, ◌+◌, ◌*◌, ◌<◌, ◌≤◌, sym, leb, le-leb, arith, Some, Ordering}
use Rattle.std.specs.declared.cmp.Ordering.TheVariants.{Less, Equal, Greater}
use Rattle.std.proofs.lemmas.Bool.{lt-leb}
use Rattle.std.specs.Ordering.{MatchOrdering, is_some_and, is_le, partial_ordering_then}

module _ (y m d z n e : ℕ) (lm : m ≤ 12) (ln : n ≤ 12) (ld : d ≤ 31) (le : e ≤ 31) where
  pub by_parts : (a b c : Ordering) → MatchOrdering a (y < z) (y ≡ z) (z < y) → MatchOrdering b (m < n) (m ≡ n) (n < m) → MatchOrdering c (d < e) (d ≡ e) (e < d)
      → is_some_and is_le (partial_ordering_then (partial_ordering_then (Some a) (Some b)) (Some c)) ≡ leb (y * 10000 + m * 100 + d) (z * 10000 + n * 100 + e)
  by_parts Less b c p q r = sym (le-leb _ _ (omega arith))
  by_parts Greater b c p q r = sym (lt-leb _ _ (omega arith))
  by_parts Equal Less c p q r = sym (le-leb _ _ (omega arith))
  by_parts Equal Greater c p q r = sym (lt-leb _ _ (omega arith))
  by_parts Equal Equal Less p q r = sym (le-leb _ _ (omega arith))
  by_parts Equal Equal Equal p q r = sym (le-leb _ _ (omega arith))
  by_parts Equal Equal Greater p q r = sym (lt-leb _ _ (omega arith))
