use Rattle.std.proofs.Common.{◌≡◌, ◌∙◌, true, false, rules}
use Rattle.tally.specs.Tally.{takes, counted}
use Rattle.tally.proofs.Takes.{taking, takes_by}
use Rattle.tally.proofs.Tally.count.Goals as goal
use Rattle.tally.proofs.Tally.count.Goals.{Then-is_none}

taken : (c : Then-is_none) → takes c.args.self.now ≡ true
taken c = takes_by c.refusal.result _ c.refusal.ensures ∙ search rules

pub count_one-requires-clause-sound : goal.count_one-requires-clause-sound
count_one-requires-clause-sound c = (taking c.args.self.now (taken (goal.at.count_one-requires-clause-sound c).Then-is_none)).sound

pub count_one-requires-clause-room : goal.count_one-requires-clause-room
count_one-requires-clause-room c = (taking c.args.self.now (taken (goal.at.count_one-requires-clause-room c).Then-is_none)).room

pub returns-then-is_none : goal.returns-then-is_none
unfolding counted
returns-then-is_none c = rw (taken (goal.at.returns-then-is_none c).Then-is_none) c.count_one.ensures

pub returns-else-is_none : goal.returns-else-is_none
unfolding counted
returns-else-is_none c =
    let turned : takes c.args.self.now ≡ false = takes_by c.refusal.result _ c.refusal.ensures ∙ search rules in
    rw turned
