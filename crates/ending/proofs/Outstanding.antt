-- A sheet is outstanding where not all eight are in.
use Prim.Native.Nat.{ℕ}
use mathlib.Core.Path.{◌≡◌, refl, sym, ◌∙◌, ap}
use mathlib.Core.Bool.{Bool, true, false, not, ◌||◌, cond}
use mathlib.Core.List.{List, [], ◌∷◌}
use Rattle.std.specs.Prelude.{Some, None, is_some}
use Rattle.std.specs.List.{list_any}
use Rattle.grain.specs.Lists.{◌and◌, every}
use Rattle.record.specs.Refusals.{when, sheet_outstanding}
use Rattle.record.specs.State.{Product, Group, group_table}
use Rattle.record.specs.Record.{end, change, is_outstanding, tests, refusal}
use Rattle.sheets.specs.Sheets.{sheet_in}
use Rattle.book.specs.declared.Book.{Book}
use Rattle.book.specs.Book.{today_in, view_groups, view, view_product}
use Rattle.book.specs.Numbers.{all_products}
use Rattle.book.specs.Soundness.{are_all_in}
use Rattle.book.specs.Phase.{phase_refusal}
use Rattle.book.proofs.Phases.{refused_early, decided_late}
use Rattle.book.proofs.Shown.{flat}

module _ {A : Type 0} (f h : A → Bool) (opposite : (x : A) → h x ≡ not (f x)) where
  pub one-not : (l : List A) → list_any h l ≡ not (every f l)
  unfolding every ◌and◌
  one-not [] = refl
  one-not (x ∷ l) = go (f x) (h x) (opposite x) (one-not l)
    where
      go : (a b : Bool) → b ≡ not a → list_any h l ≡ not (every f l) → b || list_any h l ≡ not (a and every f l)
      go true b e later = rw e later
      go false b e later = rw e

abbrev is_in : Product → Bool
is_in q = is_some q.today

abbrev are_in : Group → Bool
are_in g = every is_in g.products

group_outstanding : (g : Group) → is_outstanding g ≡ not (are_in g)
unfolding is_outstanding
group_outstanding g = one-not is_in (λ (q : Product). not (is_some q.today)) (λ q. refl) g.products

outstanding_is : (b : Book) → list_any is_outstanding (view b).groups ≡ not (every (λ p. is_some (sheet_in (today_in b p))) all_products)
unfolding view view_product
outstanding_is b =
    one-not are_in is_outstanding group_outstanding (view_groups b 0 group_table) ∙ ap not (flat b is_in)

-- refused by the first two tests
pub phase_refuses : (b : Book) (n : ℕ) → Some n ≡ phase_refusal true (view b) → Some n ≡ refusal (view b) (change end)
unfolding refusal tests
phase_refuses b n e = sym (refused_early (view b) _ n (when (list_any is_outstanding (view b).groups) sheet_outstanding ∷ []) (sym e))

-- past them, whether all sheets are in decides
pub sheets_decide : (b : Book) → None ≡ phase_refusal true (view b) → refusal (view b) (change end) ≡ cond (not (are_all_in b)) (Some sheet_outstanding) None
unfolding refusal tests
sheets_decide b e =
    decided_late (view b) _ (when (list_any is_outstanding (view b).groups) sheet_outstanding ∷ []) (sym e)
    ∙ ap (λ (x : Bool). cond x (Some sheet_outstanding) None) (outstanding_is b)
