-- The tests of what a book holds of its products: their limits, and their windows and sheets.
use Rattle.std.proofs.Common.{◌≡◌, refl, ◌∙◌, ℕ, Bool, true, false, ◌&&◌, leb, eqb, ◌%◌}
use Rattle.grain.specs.Lists.{◌and◌, every}
use Rattle.grain.specs.Products.{is_product, floor_of, step_of}
use Rattle.grain.specs.Amounts.{is_fit, is_fit_amount}
use Rattle.record.specs.Sound.{is_sound_sheet, is_sound_window, is_sound_product}
use Rattle.sheets.specs.Sheets.{sheet_in}
use Rattle.book.specs.declared.Book.{Book}
use Rattle.book.specs.Book.{limit_in, today_in, last_in, view_product}
use Rattle.book.specs.Numbers.{all_products}
use Rattle.book.specs.Soundness.{is_sound_limit, are_settlements_sound}
use Rattle.book.proofs.Everies.{every_same, every_both}

-- only a product has a fit amount
fit_product : (p amount : ℕ) → (is_product p and is_fit_amount p amount) ≡ is_fit_amount p amount
unfolding is_fit ◌and◌
fit_product p amount = go (is_product p) (leb (floor_of p) amount) (leb amount 2000000) (eqb (amount % step_of p) 0)
  where
    go : (b x y z : Bool) → (b and (b && x && y && z)) ≡ (b && x && y && z)
    go true x y z = refl
    go false x y z = refl

abbrev pub is_limit_sound : Book → ℕ → Bool
is_limit_sound b p = is_sound_limit p (limit_in b p)

first_apart : (f w s t : Bool) → f and w and s and t ≡ f and (w && s && t)
unfolding ◌and◌
first_apart true w s t = refl
first_apart false w s t = refl

product_tests : (b : Book) (p : ℕ)
    → is_sound_product (view_product b p)
    ≡ is_limit_sound b p and are_settlements_sound b p
unfolding is_sound_product is_sound_window view_product
product_tests b p =
    rw (fit_product p (limit_in b p).initial)
    (first_apart (is_limit_sound b p) (is_sound_window (view_product b p)) (is_sound_sheet p (sheet_in (today_in b p))) (is_sound_sheet p (sheet_in (last_in b p))))

-- of all products, the limits first
pub products_split : (b : Book)
    → every (λ p. is_sound_product (view_product b p)) all_products
    ≡ every (is_limit_sound b) all_products and every (are_settlements_sound b) all_products
products_split b =
    every_same (λ p. is_sound_product (view_product b p)) (λ p. is_limit_sound b p and are_settlements_sound b p) (product_tests b) all_products
    ∙ every_both (is_limit_sound b) (are_settlements_sound b) all_products
