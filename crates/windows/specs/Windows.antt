-- What the windows mean: of each product, the collected settlements within its size.
use Rattle.std.specs.Prelude.{ℕ, ◌+◌, ◌*◌, ◌≡◌, Bool, true, false, ◌&&◌, cond, List, [], leb, ltb, take, drop, get_or, replicate, Some}
use Rattle.grain.specs.Amounts.{window_length}
use Rattle.grain.specs.Products.{product_count}
use Rattle.record.specs.Window.{collect}
use Rattle.windows.specs.declared.Windows.{Windows}

abbrev pub empty_windows : Windows
empty_windows = record { sizes = replicate product_count 0; settlements = replicate (product_count * window_length) 0 }

-- 0 where there is no such product
abbrev pub size_in : Windows → ℕ → ℕ
size_in ws p = get_or ws.sizes p 0

-- a product's own places
abbrev pub places_of : Windows → ℕ → List ℕ
places_of ws p = take window_length (drop (window_length * p) ws.settlements)

-- the settlements in the places that the size reaches, whatever the size
unfoldable pub kept_of : Windows → ℕ → List ℕ
kept_of ws p = take (size_in ws p) (places_of ws p)

-- a size beyond the 45 places is shown as a window that is too long, which no sound book has
abbrev pub shown_by : ℕ → List ℕ → List ℕ
shown_by size kept = cond (leb size window_length) kept (replicate (window_length + 1) 0)

unfoldable pub shown : Windows → ℕ → List ℕ
shown ws p = shown_by (size_in ws p) (kept_of ws p)

-- of a product, with a size that is not damaged
abbrev pub can_collect : Windows → ℕ → Bool
can_collect ws p = ltb p product_count && leb (size_in ws p) window_length

-- the windows of the other products are the same
abbrev pub OthersKept : Windows → ℕ → Windows → Type 0
OthersKept ws p r = (q : ℕ) → (q ≡ p → ⊥) → (size_in r q ≡ size_in ws q) × (kept_of r q ≡ kept_of ws q)

-- what collecting promises: where no window can collect, all stay the very windows
pub record Collects (ws : Windows) (p v : ℕ) (r : Windows) : Type 0 where
  pub own : can_collect ws p ≡ true → shown r p ≡ collect (shown ws p) (Some v)
  pub others : OthersKept ws p r
  pub unchanged : can_collect ws p ≡ false → r ≡ ws

-- where there is no such product, all stay the very windows
pub record Empties (ws : Windows) (p : ℕ) (r : Windows) : Type 0 where
  pub own : shown r p ≡ []
  pub others : OthersKept ws p r
  pub unchanged : ltb p product_count ≡ false → r ≡ ws
