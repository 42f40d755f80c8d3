-- Prices between I and E are within exactly on the expanded level, so for all products of a group or for none.
use Prim.Native.Nat.{ℕ}
use mathlib.Core.Path.{◌≡◌, ap, sym, ◌∙◌}
use mathlib.Core.Bool.{false}
use borrow.Author.Tests.{le-leb, lt-leb}
use Rattle.grain.specs.Products.{tick_of}
use Rattle.grain.specs.Check.{verdict, is_within}
use Rattle.grain.specs.declared.check.Verdict.{Verdict}
use Rattle.grain.proofs.Judged.{within_by}
use Rattle.record.specs.State.{Level, initial, expanded, Record, group_table, group_of, group_at, product_in, limit_at}
use Rattle.record.specs.Check.{judged}
use Rattle.record.specs.Sound.{is_expanded}
use Rattle.record.specs.Record.{check, checked, accepted, ask}
use Rattle.record.specs.History.{products_of}
use Rattle.record.specs.Theorems.{OneLevel, Together, BetweenLimits}
use Rattle.record.proofs.AcceptedChecks.{passed}
use Rattle.record.proofs.GroupTable.{is_of_lem}

one_level : (r : Record) (g : ℕ) → OneLevel r (products_of g)
one_level r g =
    record {
      level = (group_at r g).level;
      stands = λ p e. let is = is_of_lem g p e in record { level = rw is; limit = rw is };
    }

pub together : (r : Record) → Together r
unfolding group_table
together r = record { groups = one_level r; complex = one_level r 1; wheats = one_level r 2 }

module _ (r : Record) (p month price : ℕ) (w : BetweenLimits r p month price) where
  by_level : (tick : ℕ) (l : Level)
      → is_within
      (verdict false tick w.settlement (limit_at l (product_in (group_at r (group_of p)) p).initial_limit (product_in (group_at r (group_of p)) p).expanded_limit) price)
      ≡ is_expanded l
  by_level tick initial = within_by tick w.settlement _ price ∙ lt-leb _ _ w.beyond_initial
  by_level tick expanded = within_by tick w.settlement _ price ∙ le-leb _ _ w.not_beyond_expanded

  -- what an accepted check answers
  within_by_level : (size : ℕ) (v : Verdict) → ask r (check p size month price) ≡ accepted (checked v)
      → is_within v ≡ is_expanded (group_at r (group_of p)).level
  unfolding judged
  within_by_level size v e =
      let is = (passed r p size month price v e).is in
      rw (← is) (rw (w.not_spot, w.is_listed) (by_level (tick_of p size) (group_at r (group_of p)).level))

pub coupled : (r : Record) (p q i j m n x y : ℕ) (v w : Verdict) → group_of p ≡ group_of q
    → BetweenLimits r p m x → BetweenLimits r q n y
    → ask r (check p i m x) ≡ accepted (checked v) → ask r (check q j n y) ≡ accepted (checked w) → is_within v ≡ is_within w
coupled r p q i j m n x y v w e a b f h =
    within_by_level r p m x a i v f
    ∙ ap (λ (g : ℕ). is_expanded (group_at r g).level) e
    ∙ sym (within_by_level r q n y b j w h)
