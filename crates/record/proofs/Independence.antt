-- A group's part of the Record depends on the openings, the ends, the conversions and that group's sheets alone.
use Prim.Native.Nat.{ℕ, zero, suc}
use mathlib.Core.Path.{◌≡◌, refl, ap, ap₂, ◌∙◌}
use mathlib.Core.Bool.{Bool, true, false}
use mathlib.Core.List.{List, [], ◌∷◌, map}
use lib.ListN.{get_or}
use Rattle.record.specs.State.{Day, Product, Group, Common, with_products, no_group, group_table, group_at}
use Rattle.record.specs.Founding.{Start, found_product, found_group, founded}
use Rattle.record.specs.Opening.{open_group, open_product}
use Rattle.record.specs.End.{end_group, end_product}
use Rattle.record.specs.Record.{Call}
use Rattle.record.specs.History.{ProductSheet, Entry, a_day, a_conversion, sheet_among, milestone, milestones_of, sheets_on, sheets_of, products_of, SameFor}
use Rattle.record.specs.Replay.{product_with, group_with, ended_if, common_by, group_by, common_after, group_after, replay}
use Rattle.record.specs.Theorems.{after, history_of}
use Rattle.record.proofs.Maps.{map-map, map_same}
use Rattle.record.proofs.Replayed.{replayed}

-- ---- the products of a group stay the same
abbrev numbers : Group → List ℕ
numbers g = map (λ (q : Product). q.number) g.products

open_numbers : (c : Common) (d : Day) (g : Group) → numbers (open_group c d g) ≡ numbers g
unfolding open_group open_product
open_numbers c d g = map-map _ _ _ (λ q. refl) g.products

with_numbers : (fs : List ProductSheet) (g : Group) → numbers (group_with fs g) ≡ numbers g
unfolding group_with product_with
with_numbers fs g = map-map _ _ _ (λ q. refl) g.products

end_numbers : (b : Bool) (c : Common) (g : Group) → numbers (ended_if b c g) ≡ numbers g
unfolding end_group end_product
end_numbers true c g = map-map _ _ _ (λ q. refl) g.products
end_numbers false c g = refl

entry_numbers : (e : Entry) (c : Common) (g : Group) → numbers (group_by e c g) ≡ numbers g
entry_numbers (a_day k) c g = end_numbers k.is_ended _ _ ∙ with_numbers k.sheets _ ∙ open_numbers c k.day g
entry_numbers a_conversion c g = refl

after-numbers : (es : List Entry) (c : Common) (g : Group) → numbers (group_after es c g) ≡ numbers g
unfolding group_after
after-numbers [] c g = refl
after-numbers (e ∷ es) c g = entry_numbers e (common_after es c) _ ∙ after-numbers es c g

-- ---- the same sheets of its products, the same group
with_list : (s t : List ProductSheet) (qs : List Product)
    → map (sheet_among s) (map (λ (q : Product). q.number) qs) ≡ map (sheet_among t) (map (λ (q : Product). q.number) qs)
    → map (product_with s) qs ≡ map (product_with t) qs
unfolding product_with
with_list s t [] e = refl
with_list s t (q ∷ qs) e =
    let h : sheet_among s q.number ≡ sheet_among t q.number = cc in
    let l : map (sheet_among s) (map (λ (q : Product). q.number) qs) ≡ map (sheet_among t) (map (λ (q : Product). q.number) qs) = cc in
    ap₂ ◌∷◌ (rw h) (with_list s t qs l)

with_same : (s t : List ProductSheet) (ps : List ℕ) (g : Group) → numbers g ≡ ps
    → map (sheet_among s) ps ≡ map (sheet_among t) ps → group_with s g ≡ group_with t g
unfolding group_with
with_same s t ps g n e =
    ap (λ qs. with_products qs g) (with_list s t g.products (rw n e))

-- ---- the same milestone, and the same sheets of its products: the same after the entry
entry_common : (e f : Entry) (c : Common) → milestone e ≡ milestone f → common_by e c ≡ common_by f c
entry_common (a_day k) (a_day l) c m =
    let d : k.day ≡ l.day = cc in
    let b : k.is_ended ≡ l.is_ended = cc in
    rw (d, b)
entry_common (a_day k) a_conversion c m = cc
entry_common a_conversion (a_day k) c m = cc
entry_common a_conversion a_conversion c m = refl

entry_group : (ps : List ℕ) (e f : Entry) (c : Common) (g : Group) → numbers g ≡ ps
    → milestone e ≡ milestone f → sheets_on ps e ≡ sheets_on ps f → group_by e c g ≡ group_by f c g
entry_group ps (a_day k) (a_day l) c g n m s =
    let d : k.day ≡ l.day = cc in
    let b : k.is_ended ≡ l.is_ended = cc in
    rw (d, b, with_same k.sheets l.sheets ps (open_group c l.day g) (open_numbers c l.day g ∙ n) s)
entry_group ps (a_day k) a_conversion c g n m s = cc
entry_group ps a_conversion (a_day k) c g n m s = cc
entry_group ps a_conversion a_conversion c g n m s = refl

common_same : (c : Common) (es fs : List Entry) → milestones_of es ≡ milestones_of fs → common_after es c ≡ common_after fs c
common_same c [] [] m = refl
common_same c [] (f ∷ fs) m = cc
common_same c (e ∷ es) [] m = cc
common_same c (e ∷ es) (f ∷ fs) m =
    let first : milestone e ≡ milestone f = cc in
    let rest : milestones_of es ≡ milestones_of fs = cc in
    entry_common e f (common_after es c) first ∙ ap (common_by f) (common_same c es fs rest)

module _ (ps : List ℕ) (c : Common) (g : Group) (n : numbers g ≡ ps) where
  group_same : (es fs : List Entry) → milestones_of es ≡ milestones_of fs → sheets_of ps es ≡ sheets_of ps fs
      → group_after es c g ≡ group_after fs c g
  unfolding group_after
  group_same [] [] m s = refl
  group_same [] (f ∷ fs) m s = cc
  group_same (e ∷ es) [] m s = cc
  group_same (e ∷ es) (f ∷ fs) m s =
      let m₁ : milestone e ≡ milestone f = cc in
      let m₂ : milestones_of es ≡ milestones_of fs = cc in
      let s₁ : sheets_on ps e ≡ sheets_on ps f = cc in
      let s₂ : sheets_of ps es ≡ sheets_of ps fs = cc in
      rw (common_same c es fs m₂, group_same es fs m₂ s₂)
      (entry_group ps e f (common_after fs c) (group_after fs c g) (after-numbers fs c g ∙ n) m₁ s₁)

-- ---- of the whole Record, one group
module _ (f h : Group → Group) where
  at_same : (l : List Group) (i : ℕ) → f (get_or l i no_group) ≡ h (get_or l i no_group)
      → get_or (map f l) i no_group ≡ get_or (map h l) i no_group
  at_same [] i e = refl
  at_same (g ∷ l) zero e = e
  at_same (g ∷ l) (suc i) e = at_same l i e

found_numbers : (s : Start) (l : List (List ℕ)) (i : ℕ) → numbers (get_or (map (found_group s) l) i no_group) ≡ get_or l i []
unfolding found_group found_product
found_numbers s [] i = refl
found_numbers s (ps ∷ l) zero = map-map _ _ (λ p. p) (λ p. refl) ps ∙ map_same _ (λ p. refl) ps
found_numbers s (ps ∷ l) (suc i) = found_numbers s l i

module _ (s : Start) (g : ℕ) (cs ds : List Call) (same : SameFor g (history_of s cs) (history_of s ds)) where
  pub same_day : (after s cs).common ≡ (after s ds).common
  unfolding replay
  same_day =
      rw (replayed s cs, replayed s ds) (common_same (founded s).common (history_of s cs) (history_of s ds) same.milestones)

  pub same_group : group_at (after s cs) g ≡ group_at (after s ds) g
  unfolding replay founded
  same_group =
      rw (replayed s cs, replayed s ds)
      (at_same _ _ (founded s).groups g
      (group_same (products_of g) (founded s).common (group_at (founded s) g) (found_numbers s group_table g) _ _ same.milestones same.sheets))
