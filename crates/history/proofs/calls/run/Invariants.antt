use Rattle.std.proofs.Common.{ℕ, ◌≡◌, ◌≤◌, length, map, take, drop}
use Rattle.history.specs.Calls.{call_as, told}
use Rattle.history.specs.Step.{Step}
use Rattle.history.specs.Trace.{Trace}
use Rattle.history.proofs.calls.run.Given as goal

-- the calls so far, and what they are answered; the places from i on are as they were
abbrev pub invariant-loop-i : goal.invariant-loop-i
invariant-loop-i l =
    (length l.replies ≡ length l.fn.replies)
    × ((n : ℕ) → l.i ≤ n → drop n l.replies ≡ drop n l.fn.replies)
    × Trace Step l.fn.b (map call_as (take l.i l.calls)) (map told (take l.i l.replies)) l.b
