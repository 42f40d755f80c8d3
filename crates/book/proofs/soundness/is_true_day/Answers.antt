use Rattle.std.proofs.Common.{rules, ◌≡◌, Bool, false, leb, Result, Ok, Err}
use Rattle.std.specs.Result.{MatchResult}
use borrow.Author.Tests.{tests}
use Rattle.grain.specs.Margin.{date_facts_as, date_facts}
use Rattle.grain.specs.declared.DateFacts.{DateFacts}
use Rattle.grain.specs.declared.Refusal.{Refusal}
use Rattle.grain.proofs.FactsOfDates.{no_date_lem, dated}
use Rattle.record.specs.declared.Day.{Day}
use Rattle.record.specs.Opening.{is_true_day}
use Rattle.book.proofs.soundness.is_true_day.Goals as goal

decided : (d : Day) (r : Result DateFacts Refusal) (b : Bool) (P : DateFacts → Type 0) → date_facts_as r ≡ date_facts d.year d.month d.day
    → ((f : DateFacts) → P f → b ≡ leb d.left f.remaining) → MatchResult r P (λ _. b ≡ false) → b ≡ is_true_day d
unfolding is_true_day
decided d (Ok f) b P e at m = let is = dated d.year d.month d.day f e in rw (is.date, ← is.remains) (at f m)
decided d (Err r) b P e at m = rw (no_date_lem d.year d.month d.day r e) m

pub returns : goal.returns
returns c = decided c.args.d _ _ _ c.date_facts.ensures (λ f k. search (rules, tests)) c.is_ok_and.ensures
