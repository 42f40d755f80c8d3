-- What an opening's answers tell of levels and marks, proved of every book.
use Prim.Native.Nat.{ℕ, ◌<◌}
use mathlib.Core.Path.{◌≡◌, refl, sym, ◌∙◌, ap}
use mathlib.Core.Bool.{Bool, false, cond}
use mathlib.Core.List.{List, map}
use Rattle.std.specs.Prelude.{Option, Some, None, Result, Ok, Err}
use lib.ListN.{replicate, get_or-map}
use Rattle.grain.specs.Products.{product_count}
use Rattle.grain.specs.declared.refusals.Refusal.{Refusal}
use Rattle.grain.proofs.Below.{each}
use Rattle.record.specs.declared.Day.{Day}
use Rattle.record.specs.State.{initial, Record, no_group, group_table, group_count, group_at}
use Rattle.record.specs.Opening.{has_new_limits, open_group}
use Rattle.record.specs.Record.{opening, change, opened, refused, accepted, refusal, next, next_group, respond}
use Rattle.record.specs.History.{products_of}
use Rattle.book.specs.declared.Book.{Book}
use Rattle.book.specs.Book.{view_common, view}
use Rattle.book.specs.Numbers.{all_products}
use Rattle.book.proofs.Views.{group_is}
use Rattle.opening.specs.Opens.{opened_as, renewed_in, is_one_renewed, Opens}
use Rattle.opening.specs.SeasonStart.{SeasonStart}
use Rattle.opening.proofs.Starts.{one-renewed}
use Rattle.opening.proofs.Renewals.{renewed_on, new_limits, renewed-answer}

-- a group of a Record after an accepted opening
group_next : (r : Record) (d : Day) (g : ℕ) → group_at (next r (opening d)) g ≡ open_group r.common d (group_at r g)
unfolding next next_group open_group has_new_limits
group_next r d g = get_or-map (open_group r.common d) r.groups g no_group

-- no for every product is no for every group
all_no_lem : (g : ℕ) → g < group_count → is_one_renewed (replicate product_count false) (products_of g) ≡ false
unfolding group_table
all_no_lem = each (λ g. is_one_renewed (replicate product_count false) (products_of g) ≡ false) group_count search

-- the answers of an opening that is answered with some
answers_are : (r : Result (List Bool) Refusal) (l : List Bool) → opened_as r ≡ accepted (opened l) → renewed_in r ≡ l
answers_are (Ok m) l e = cc
answers_are (Err n) l e = cc

-- a refused one says no for every product
silent : (r : Result (List Bool) Refusal) (n : ℕ) → opened_as r ≡ refused n → renewed_in r ≡ replicate product_count false
silent (Ok m) n e = let z : accepted (opened m) ≡ refused n = e in cc
silent (Err m) n e = refl

module _ (b after : Book) (d : Day) (r : Result (List Bool) Refusal) (opens : Opens b d r after) (g : ℕ) (l : g < group_count) where
  -- as the Record says it, with the answers in place of the windows
  abbrev Started : Type 0
  Started =
      let x = is_one_renewed (renewed_in r) (products_of g) in
      let before = group_at (view b) g in
      let left = group_at (view after) g in
      (left.level ≡ cond x initial before.level) × (left.mark ≡ cond x false before.mark)

  started : Started
  unfolding view respond open_group
  started = go (refusal (view b) (change (opening d))) refl
    where
      go : (o : Option ℕ) → refusal (view b) (change (opening d)) ≡ o → Started
      go (Some n) e =
          let no : is_one_renewed (renewed_in r) (products_of g) ≡ false = rw (silent r n (rw e at opens.answer)) (all_no_lem g l) in
          let same = opens.unchanged n e in
          (rw (no, same), rw (no, same))
      go None e =
          let renewed : renewed_in r ≡ map (renewed_on b d) all_products =
          answers_are r _ (rw e at opens.answer ∙ ap accepted (sym (renewed-answer b d))) in
          let left : group_at (view after) g ≡ open_group (view_common b) d (group_at (view b) g) =
          ap (λ (t : Record). group_at t g) (rw e at opens.state) ∙ group_next (view b) d g in
          let x : is_one_renewed (renewed_in r) (products_of g) ≡ has_new_limits (view_common b) d (group_at (view b) g) =
          rw (renewed, one-renewed (renewed_on b d) g l, group_is b g l) (sym (new_limits b d g)) in
          (rw (left, x), rw (left, x))

pub season_start : SeasonStart
season_start =
    record {
      narrow = λ b after d r opens g l yes. rw yes at (started b after d r opens g l);
      kept = λ b after d r opens g l no. rw no at (started b after d r opens g l);
    }
