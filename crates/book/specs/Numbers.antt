-- The products and the groups by their numbers.
use Rattle.std.specs.Prelude.{ℕ, List, length, take}
use Rattle.std.specs.List.{range_with_len}
use Rattle.grain.specs.Products.{product_count}
use Rattle.record.specs.Choices.{concat_map}
use Rattle.record.specs.State.{group_table, group_count}

abbrev pub all_products : List ℕ
all_products = range_with_len 0 product_count

abbrev pub all_groups : List ℕ
all_groups = range_with_len 0 group_count

-- how many products the groups before g have: the products of a group stand together, so that its own are those from this number on
unfoldable pub products_before : ℕ → ℕ
products_before g = length (concat_map (λ (ps : List ℕ). ps) (take g group_table))
