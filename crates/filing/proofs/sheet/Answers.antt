use Rattle.std.proofs.Common.{rules, ◌≡◌, refl, sym, ◌∙◌}
use Rattle.record.specs.Record.{sheet, filed, answer}
use Rattle.record.specs.Sheet.{contracts}
use Rattle.book.specs.Book.{view}
use Rattle.book.proofs.OpenDays.{is_sound_open}
use Rattle.book.proofs.SoundFacts.{day_in}
use Rattle.book.proofs.Responses.{refused_call, accepted_responds}
use Rattle.filing.proofs.Filings.{made, phase_refuses, early_refuses, early, refusal_late, sheet_in_lem, filed_view}
use Rattle.filing.proofs.sheet.Goals as goal

pub returns-in_err-date : goal.returns-in_err-date
returns-in_err-date c =
    let a = c.args in
    refused_call (λ u. filed) a.b.now (sheet a.product a.months.now a.settlements.now) _ c.in_err-date.field-0.0 (search rules)
    (sym (phase_refuses (view a.b.now) a.product a.months.now a.settlements.now _ (sym c.in_err-date.ensures.refusal)))

pub returns-in_err-early_refusal : goal.returns-in_err-early_refusal
returns-in_err-early_refusal c =
    let a = c.args in
    refused_call (λ u. filed) a.b.now (sheet a.product a.months.now a.settlements.now) _ c.in_err-early_refusal.field-0.0 (search rules)
    (sym (early_refuses (view a.b.now) a.product a.months.now a.settlements.now c.in_ok-date.ensures.refusal _ (sym c.in_err-early_refusal.ensures)))

pub contract_refusal-requires : goal.contract_refusal-requires
contract_refusal-requires c =
    let a = c.args in
    let e = early a.b.now a.product a.months.now a.settlements.now (sym c.in_ok-early_refusal.ensures) in
    (e.product, is_sound_open a.b.now c.in_ok-date.ensures.refusal, rw (day_in a.b.now _ (c.in_ok-date.ensures.day _ refl)) c.in_ok-date.field-0.dated)

pub returns-in_err-contract_refusal : goal.returns-in_err-contract_refusal
returns-in_err-contract_refusal c =
    let a = c.args in
    let e = early a.b.now a.product a.months.now a.settlements.now (sym c.in_ok-early_refusal.ensures) in
    let is = made a.months.now a.settlements.now c.of-sheet.result c.of-sheet.ensures e.arrays in
    refused_call (λ u. filed) a.b.now (sheet a.product a.months.now a.settlements.now) _ c.in_err-contract_refusal.field-0.0 (search rules)
    (c.in_err-contract_refusal.ensures ∙ sym (refusal_late a.b.now a.product a.months.now a.settlements.now c.of-sheet.result c.in_ok-date.ensures.refusal e is))

pub returns : goal.returns
unfolding answer
returns c =
    let a = c.args in
    let e = early a.b.now a.product a.months.now a.settlements.now (sym c.in_ok-early_refusal.ensures) in
    let s = c.of-sheet.result in
    let is = made a.months.now a.settlements.now s c.of-sheet.ensures e.arrays in
    let some_contract : s.count ≡ 0 → ⊥ = λ z. e.arrays.some_contract (sym is.count ∙ z) in
    let holds = sheet_in_lem s (contracts a.months.now a.settlements.now) some_contract (rw is.count e.arrays.fits) is.entries in
    accepted_responds a.b.now (sheet a.product a.months.now a.settlements.now) filed _
    (refusal_late a.b.now a.product a.months.now a.settlements.now s c.in_ok-date.ensures.refusal e is ∙ sym c.in_ok-contract_refusal.ensures) refl
    (filed_view a.b.now a.product s a.months.now a.settlements.now (search rules) holds)
