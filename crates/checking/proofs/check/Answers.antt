use Rattle.std.proofs.Common.{rules, ◌≡◌, refl, sym, ap, ◌∙◌, Err}
use Rattle.record.specs.Check.{Terms}
use Rattle.record.specs.Record.{order_answer}
use Rattle.record.proofs.CheckTerms.{refused_terms, on_terms}
use Rattle.book.specs.Book.{view}
use Rattle.checking.proofs.check.Goals as goal

pub returns-in_err-terms : goal.returns-in_err-terms
returns-in_err-terms c =
    let a = c.args in
    let is : c.from_residual.result ≡ Err c.in_err-terms.field-0.0 = search rules in
    rw is (sym (refused_terms (view a.b.now) a.product a.size a.month a.price _ (sym c.in_err-terms.ensures.refusal)))

pub returns : goal.returns
returns c =
    let a = c.args in
    let o = c.in_ok-terms.ensures in
    c.judged.ensures
    ∙ ap (λ (t : Terms). order_answer t a.month a.price) (o.terms _ refl)
    ∙ sym (on_terms (view a.b.now) a.product a.size a.month a.price (sym o.refusal))
