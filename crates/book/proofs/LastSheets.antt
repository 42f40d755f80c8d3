-- The last ended sheet of a product, as the Record has it in the product's group.
use Rattle.std.proofs.Common.{ℕ, ◌<◌, ◌≡◌, ◌∙◌, ap, true}
use Rattle.grain.specs.Products.{product_count}
use Rattle.record.specs.State.{Product, group_of, group_at, product_in, sheet_or}
use Rattle.record.specs.Sound.{is_sound}
use Rattle.sheets.specs.Sheets.{entries_of}
use Rattle.sheets.proofs.Rest.{counted}
use Rattle.book.specs.declared.Book.{Book}
use Rattle.book.specs.Book.{last_in, view_product, view}
use Rattle.book.proofs.SheetsIn.{sheet_contracts}
use Rattle.book.proofs.SoundFacts.{last_fits}
use Rattle.book.proofs.Views.{product_is}

pub last_is : (b : Book) → is_sound (view b) ≡ true → (p : ℕ) → p < product_count
    → sheet_or (product_in (group_at (view b) (group_of p)) p).last ≡ entries_of (last_in b p)
unfolding view_product
last_is b sound p l =
    ap (λ (q : Product). sheet_or q.last) (product_is b p l) ∙ sheet_contracts (last_in b p) ∙ counted (last_in b p) (last_fits b sound p l)
