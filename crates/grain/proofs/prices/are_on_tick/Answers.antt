use Rattle.std.proofs.Common.{◌≡◌, sym, ap, ◌∙◌, ℕ, List, take, length}
use native.Mathlib.Omega.{arith}
use Rattle.std.proofs.lemmas.List.{take_all}
use Rattle.grain.proofs.prices.are_on_tick.Goals as goal

-- the first 45 of 45 prices
whole : (prices : List ℕ) → length prices ≡ 45 → take 45 prices ≡ prices
whole prices e = take_all 45 prices (omega (arith, e))

pub slice_bounds-are_plain-end : goal.slice_bounds-are_plain-end
slice_bounds-are_plain-end c = let full = c.if-prices-eq-WINDOW_LENGTH.true in sym (ap length (whole c.args.prices.now full) ∙ full)

pub returns-then-are_plain : goal.returns-then-are_plain
returns-then-are_plain c =
    let full = c.if-prices-eq-WINDOW_LENGTH.true in
    sym (rw (whole c.args.prices.now full) at (c.are_plain.ensures c.if-are_plain.true))
