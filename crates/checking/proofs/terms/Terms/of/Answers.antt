use Rattle.std.proofs.Common.{rules, ◌≡◌, refl, sym, ◌∙◌, Err}
use Rattle.grain.specs.Products.{tick_of}
use borrow.Author.Tests.{eq-eqb, ne_eqb}
use Rattle.book.proofs.OpenDays.{is_sound_open}
use Rattle.checking.proofs.Offering.{offered_product, grants, terms_are, phase_refuses, offer_decides, refuses}
use Rattle.checking.proofs.terms.Terms.of.Goals as goal
use Rattle.checking.proofs.terms.Terms.of.Goals.{Else-tick-eq0}

-- past the test of the tick

has_tick : (c : Else-tick-eq0) → tick_of c.args.product c.args.size ≡ 0 → ⊥
has_tick c e = c.if-tick-eq0.false (c.tick-tick.ensures ∙ e)

pub returns-in_err-date : goal.returns-in_err-date
returns-in_err-date c =
    let a = c.args in
    let is : c.from_residual.result ≡ Err c.in_err-date.field-0.0 = search rules in
    rw (is) (refuses a.b.now a.product a.size _ (phase_refuses a.b.now a.product a.size _ (sym c.in_err-date.ensures.refusal)))

pub returns-then-tick-eq0 : goal.returns-then-tick-eq0
returns-then-tick-eq0 c =
    let a = c.args in
    let none = eq-eqb (tick_of a.product a.size) 0 (sym c.tick-tick.ensures ∙ c.if-tick-eq0.true) in
    refuses a.b.now a.product a.size _ (offer_decides a.b.now a.product a.size (sym c.in_ok-date.ensures.refusal) ∙ rw none)

pub bounds-b-p : goal.bounds-b-p
bounds-b-p c = offered_product _ _ (has_tick (goal.at.bounds-b-p c).Else-tick-eq0)

pub returns : goal.returns
returns c =
    let a = c.args in
    let passed = c.in_ok-date.ensures.refusal in
    let has = has_tick (goal.at.returns c).Else-tick-eq0 in
    grants a.b.now a.product a.size _ (offer_decides a.b.now a.product a.size (sym passed) ∙ rw (ne_eqb (tick_of a.product a.size) 0 has))
    (terms_are a.b.now a.product a.size (is_sound_open a.b.now passed) _ _ _ (offered_product _ _ has) c.tick-tick.ensures c.limit_of.ensures _ (c.in_ok-date.ensures.day _ refl) c.in_ok-date.field-0.dated)
