-- What the tests before the contracts look at, by the book: past that of the product, whether its sheet is in.
use Prim.Native.Nat.{ℕ, ◌<◌}
use mathlib.Core.Path.{◌≡◌, ◌∙◌, ap}
use mathlib.Core.Bool.{Bool, true, not}
use mathlib.Core.List.{List, [], ◌∷◌}
use borrow.Author.Tests.{ltb-true}
use Rattle.grain.specs.Products.{is_product}
use Rattle.grain.specs.Refusals.{no_such_product, misshapen}
use Rattle.std.specs.Prelude.{Option, is_some}
use Rattle.record.specs.Refusals.{when, first, already_in}
use Rattle.record.specs.State.{Product, group_of, group_at, product_in}
use Rattle.record.specs.Sheet.{is_misshapen}
use Rattle.sheets.specs.Sheets.{sheet_in}
use Rattle.book.specs.declared.Book.{Book}
use Rattle.book.specs.Book.{today_in, view, view_product}
use Rattle.book.proofs.Views.{product_is}
use Rattle.filing.specs.Files.{early_tests}

today_is : (b : Book) (p : ℕ) → p < 8 → is_some (product_in (group_at (view b) (group_of p)) p).today ≡ is_some (sheet_in (today_in b p))
unfolding view_product
today_is b p l = ap (λ (q : Product). is_some q.today) (product_is b p l)

-- the refusal, by what the three tests look at
abbrev pub by : Bool → Bool → Bool → Option ℕ
by product is_in shape = first (when (not product) no_such_product ∷ when is_in already_in ∷ when shape misshapen ∷ [])

module _ (b : Book) (p : ℕ) (ms ss : List ℕ) where
  abbrev has_today : Bool
  has_today = is_some (product_in (group_at (view b) (group_of p)) p).today

  -- past the test of the product: by the sheet that is in and by the shape of the arrays
  pub early_is : is_product p ≡ true → first (early_tests (view b) p ms ss) ≡ by true (is_some (sheet_in (today_in b p))) (is_misshapen ms ss)
  early_is product =
      ap (λ x. by x has_today (is_misshapen ms ss)) product
      ∙ ap (λ x. by true x (is_misshapen ms ss)) (today_is b p (ltb-true p 8 product))
