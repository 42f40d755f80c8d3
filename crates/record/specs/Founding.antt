-- Founding, under an edition of the rule, from eight initial limits.
use Rattle.std.specs.Prelude.{ℕ, Bool, false, not, List, [], ◌∷◌, map, eqb, length, get_or, Option, None}
use Rattle.grain.specs.Lists.{◌and◌, every}
use Rattle.grain.specs.Amounts.{expanded_of, is_fit_founding}
use Rattle.grain.specs.Products.{product_count}
use Rattle.grain.specs.Refusals.{unfit_amount}
use Rattle.record.specs.Refusals.{when, first, unknown_edition}
use Rattle.record.specs.State.{initial, Product, Group, Record, group_table}
use Rattle.record.specs.Edition.{is_edition}

-- What a book is founded on.
pub record Start : Type 0 where
  pub edition : ℕ
  -- an initial limit for each product
  pub limits : List ℕ

abbrev pub limit_of : Start → ℕ → ℕ
limit_of s p = get_or s.limits p 0

-- one for each product, and each fit
unfoldable pub are_fit : List ℕ → Bool
are_fit limits =
    eqb (length limits) product_count and every (λ ps. every (λ p. is_fit_founding p (get_or limits p 0)) ps) group_table

-- the number with which a founding is refused
unfoldable pub founding_refusal : Start → Option ℕ
founding_refusal s =
    first (when (not (is_edition s.edition)) unknown_edition ∷ when (not (are_fit s.limits)) unfit_amount ∷ [])

unfoldable pub found_product : Start → ℕ → Product
found_product s p =
    record {
      number = p;
      initial_limit = limit_of s p;
      expanded_limit = expanded_of p (limit_of s p);
      window = [];
      today = None;
      last = None;
    }

unfoldable pub found_group : Start → List ℕ → Group
found_group s ps = record { level = initial; mark = false; products = map (found_product s) ps }

unfoldable pub founded : Start → Record
founded s =
    record {
      common = record { edition = s.edition; opened = None; is_open = false };
      groups = map (found_group s) group_table;
    }
