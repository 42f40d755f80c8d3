-- What is shown of every span, since an order that is rejected will be sent again at an end of it. proofs/Spanned.antt has the proof.
use Rattle.std.specs.Prelude.{ℕ, ◌≤◌, ◌≡◌, true, false, ◌&&◌, leb}
use Rattle.grain.specs.Products.{tick_of, is_offered}
use Rattle.grain.specs.Prices.{is_price, is_settlement}
use Rattle.grain.specs.Amounts.{is_fit_amount}
use Rattle.grain.specs.Check.{span_by, verdict, is_within}
use Rattle.grain.specs.declared.check.Span.{Span}

pub record SpanOf (p size settlement limit : ℕ) (s : Span) : Type 0 where
  -- both ends are prices on the size's tick
  pub lowest_passes : is_price p size s.lowest ≡ true
  pub highest_passes : is_price p size s.highest ≡ true
  -- the settlement is between them
  pub from_lowest : s.lowest ≤ settlement
  pub to_highest : settlement ≤ s.highest
  -- of the prices on the size's tick, exactly those from the one end to the other are within
  pub within :
      (price : ℕ) → is_price p size price ≡ true
      → is_within (verdict false (tick_of p size) settlement limit price) ≡ (leb s.lowest price && leb price s.highest)

-- for every product and size that is offered, every settlement and every fit amount
abbrev pub EverySpan : Type 0
EverySpan =
    (p size settlement limit : ℕ) → is_offered p size ≡ true → is_settlement p settlement ≡ true → is_fit_amount p limit ≡ true
    → SpanOf p size settlement limit (span_by (tick_of p size) settlement limit)
