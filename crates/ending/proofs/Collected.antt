-- A loop that collects product by product: before p the windows are those after the day, from p on those before it.
use Rattle.std.proofs.Common.{◌≡◌, refl, ◌∙◌, ap₂, ℕ, ◌+◌, ◌<◌, ◌≤◌, Bool, true, false, List, eqb, arith, get_or}
use borrow.Author.Tests.{eqb-true, eqb-false, le-leb, lt-ltb}
use Rattle.std.specs.Prelude.{Some}
use Rattle.grain.specs.Products.{product_count}
use Rattle.record.specs.declared.Day.{Day}
use Rattle.record.specs.Window.{collected_month, collect, window_by}
use Rattle.sheets.specs.declared.sheet.Sheet.{Sheet}
use Rattle.sheets.specs.Sheets.{entries_of}
use Rattle.windows.specs.declared.Windows.{Windows}
use Rattle.windows.specs.Windows.{size_in, kept_of, shown, shown_by, can_collect, OthersKept, Collects}
use Rattle.book.specs.Book.{no_sheet}

-- what shows a window: its size, and the places that this reaches
pub shown_same : (ws vs : Windows) (q : ℕ) → (size_in vs q ≡ size_in ws q) × (kept_of vs q ≡ kept_of ws q) → shown vs q ≡ shown ws q
unfolding shown
shown_same ws vs q e = ap₂ shown_by e.0 e.1

-- ---- one product
module _ (ws : Windows) (p : ℕ) (l : p < product_count) (fits : size_in ws p ≤ 45) where
  pub collected : (v : ℕ) (vs : Windows) → Collects ws p v vs → shown vs p ≡ collect (shown ws p) (Some v)
  collected v vs c =
      let can : can_collect ws p ≡ true = rw (lt-ltb p product_count l, le-leb (size_in ws p) 45 fits) in
      c.own can

-- ---- all of them
pub record CollectedTo (d : Day) (today : List Sheet) (old : Windows) (p : ℕ) (ws : Windows) : Type 0 where
  pub done : (q : ℕ) → q < p → shown ws q ≡ window_by (shown old q) (entries_of (get_or today q no_sheet)) (collected_month d q)
  pub left : (q : ℕ) → p ≤ q → (size_in ws q ≡ size_in old q) × (kept_of ws q ≡ kept_of old q)

pub collected_first : (d : Day) (today : List Sheet) (old : Windows) → CollectedTo d today old 0 old
collected_first d today old = record { done = λ q l. absurd (omega arith); left = λ q l. (refl, refl) }

module _ (d : Day) (today : List Sheet) (old : Windows) (p : ℕ) (ws : Windows) (s : CollectedTo d today old p ws) where
  pub still_fits : size_in old p ≤ 45 → size_in ws p ≤ 45
  still_fits l = rw ((s.left p (omega arith)).0) l

  pub collected_next : (vs : Windows) → shown vs p ≡ window_by (shown ws p) (entries_of (get_or today p no_sheet)) (collected_month d p) → OthersKept ws p vs
      → CollectedTo d today old (p + 1) vs
  collected_next vs own others =
      record {
        done = λ q l. go q l (eqb q p) refl;
        left = λ q l.
            let other : q ≡ p → ⊥ = λ e. absurd (omega arith) in
            let kept = others q other in
            let was = s.left q (omega arith) in
            (kept.0 ∙ was.0, kept.1 ∙ was.1);
      }
    where
      go : (q : ℕ) → q < p + 1 → (x : Bool) → eqb q p ≡ x → shown vs q ≡ window_by (shown old q) (entries_of (get_or today q no_sheet)) (collected_month d q)
      go q l true e =
          let is : q ≡ p = eqb-true q p e in
          let same = shown_same old ws p (s.left p (omega arith)) in
          rw (is, own, same)
      go q l false e =
          let other = eqb-false q p e in
          shown_same ws vs q (others q other) ∙ s.done q (omega (arith, other))
