-- An accepted check: the tests that it passed, and its verdict.
use Prim.Native.Nat.{ℕ}
use mathlib.Core.Path.{◌≡◌, sym}
use mathlib.Core.Bool.{true}
use Rattle.std.specs.Prelude.{None, is_some}
use borrow.Author.Tests.{not-false}
use Rattle.grain.specs.Products.{is_offered}
use Rattle.grain.specs.Prices.{is_price}
use Rattle.grain.specs.declared.check.Verdict.{Verdict}
use Rattle.record.specs.State.{Record}
use Rattle.record.specs.Check.{listed, terms_tests, order_tests, judged}
use Rattle.record.specs.Sound.{is_sound}
use Rattle.record.specs.Record.{check, question, checked, accepted, terms_in, tests, refusal, answer, respond, ask}
use Rattle.record.proofs.Cleared.{accepted_clear}
use Rattle.record.proofs.AnswerBy.{accepted_with}

module _ (r : Record) (p size month : ℕ) where
  pub record Passed (price : ℕ) (v : Verdict) : Type 0 where
    pub sound : is_sound r ≡ true
    pub is_open : r.common.is_open ≡ true
    pub offered : is_offered p size ≡ true
    pub is_listed : is_some (listed (terms_in r p size).date (terms_in r p size).last month) ≡ true
    pub passes : is_price p size price ≡ true
    pub is : judged (terms_in r p size) month price ≡ v

  not_refused : (price : ℕ) (v : Verdict) → ask r (check p size month price) ≡ accepted (checked v)
      → (refusal r (question (check p size month price)) ≡ None) × (judged (terms_in r p size) month price ≡ v)
  unfolding respond answer
  not_refused price v e =
      let a = accepted_with (refusal r (question (check p size month price))) (checked v) _ (sym e) in
      let same : checked v ≡ checked (judged (terms_in r p size) month price) = a.1 in
      (a.0, cc)

  pub passed : (price : ℕ) (v : Verdict) → ask r (check p size month price) ≡ accepted (checked v) → Passed price v
  unfolding tests terms_tests order_tests
  passed price v e =
      let a = not_refused price v e in
      let c = accepted_clear r (question (check p size month price)) a.0 in
      record {
        sound = c.0;
        is_open = not-false _ c.1.0;
        offered = not-false _ c.1.1.0;
        is_listed = not-false _ c.1.1.1.0;
        passes = not-false _ c.1.1.1.1.0;
        is = a.1;
      }
