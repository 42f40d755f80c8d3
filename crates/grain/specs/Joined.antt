-- Prices joined by `or`, each less the tick.
use Rattle.std.specs.Prelude.{ℕ, ◌+◌, ◌%◌, ◌^◌, ◌≤◌, ◌≡◌}

-- A price x is among them: less the tick, where what is less than 0 wraps, it is at most their bits, and odd only where these are.
pub record IsJoined (tick joined x : ℕ) : Type 0 where
  pub less : ℕ
  pub wraps : (less + tick) % 2 ^ 32 ≡ x
  pub under : less ≤ joined
  pub odd : less % 2 ≤ joined % 2
