use Rattle.std.proofs.Common.{◌≡◌, refl, Result, Ok, Err}
use Rattle.grain.specs.declared.check.Verdict.{Verdict}
use Rattle.grain.specs.declared.refusals.Refusal.{Refusal}
use Rattle.record.specs.Record.{refused}
use Rattle.checking.specs.Checks.{checked_as}
use Rattle.tally.specs.Tally as tally
use Rattle.tally.proofs.Answered.{answered, tallied, uncounted}
use Rattle.tallying.specs.Tallies.{kind_of}
use Rattle.tallying.proofs.tallied_check.Goals as goal

same_kind : (r : Result Verdict Refusal) → kind_of (checked_as r) ≡ tally.kind_of r
same_kind (Ok v) = refl
same_kind (Err e) = refl

pub returns : goal.returns
returns c =
    let t = c.args.tally.now in
    let s = c.through.ensures in
    record {
      answer = answered checked_as refused (λ x. refl) t _ c.through.result _ c.check.ensures s.answered;
      tally = tallied checked_as kind_of same_kind t c.through.new.self _ _ c.check.ensures s.counted;
    }

pub returns-in-Some : goal.returns-in-Some
returns-in-Some c =
    let t = c.args.tally.now in
    record {
      answer = rw (← c.refusal.ensures, c.in-Some.is) refl;
      tally = uncounted t _ _ c.refusal.ensures c.in-Some.is _;
    }
