-- The bare check: a price against a settlement and an amount, with no book.
use Rattle.std.specs.Prelude.{ℕ, not, ◌&&◌, cond, eqb, Option, Result, Ok, Err, unwrap_or}
use Rattle.grain.specs.Products.{tick_of, is_offered}
use Rattle.grain.specs.Prices.{is_price, is_settlement}
use Rattle.grain.specs.Amounts.{is_fit_amount}
use Rattle.grain.specs.Check.{verdict, verdict_number, span_in}
use Rattle.grain.specs.Refusals.{number_of}
use Rattle.grain.specs.declared.check.Span.{Span}
use Rattle.grain.specs.declared.check.Verdict.{Verdict}
use Rattle.grain.specs.declared.refusals.Refusal.{Refusal}
use Rattle.grain.specs.declared.refusals.Refusal.TheVariants.{NoSuchProduct, BadPrice, UnfitAmount}

-- the refusals in their order, then the verdict; a spot that is not 0 means spot
unfoldable pub bare_answer : ℕ → ℕ → ℕ → ℕ → ℕ → ℕ → Result Verdict Refusal
bare_answer product size settlement amount spot price =
    cond (not (is_offered product size)) (Err NoSuchProduct)
    (cond (not (is_settlement product settlement && is_price product size price)) (Err BadPrice)
    (cond (not (is_fit_amount product amount)) (Err UnfitAmount)
    (Ok (verdict (not (eqb spot 0)) (tick_of product size) settlement amount price))))

-- the number of a verdict or of a refusal
abbrev pub checked_number : Result Verdict Refusal → ℕ
checked_number (Ok v) = verdict_number v
checked_number (Err r) = number_of r

abbrev pub bare_check : ℕ → ℕ → ℕ → ℕ → ℕ → ℕ → ℕ
bare_check product size settlement amount spot price = checked_number (bare_answer product size settlement amount spot price)

-- the span of each answer: two zeros, which are no prices, where it is free or refused
abbrev pub no_span : Span
no_span = record { lowest = 0; highest = 0 }

abbrev pub span_or : Option Span → Span
span_or s = unwrap_or s no_span

abbrev pub bare_span : Result Verdict Refusal → Span
bare_span (Ok v) = span_or (span_in v)
bare_span (Err r) = no_span
