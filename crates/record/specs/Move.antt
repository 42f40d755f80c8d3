-- The moves of a day: how far each contract settled from where the last ended day left it, and the tests of a move.
use Rattle.std.specs.Prelude.{ℕ, pred, Bool, not, ◌&&◌, List, [], ◌∷◌, ◌++◌, map, leb, ltb, eqb, Option, Some, None}
use Rattle.grain.specs.Lists.{distance}
use Rattle.grain.specs.Products.{first_of, is_last_crop_month}
use Rattle.record.specs.Choices.{keep}
use Rattle.record.specs.State.{Day, Contract, Sheet, Product, Group, is_spot_on, sheet_or, settlement_on}

-- A non-spot contract that has a change.
pub record Move : Type 0 where
  pub month : ℕ
  pub product : ℕ
  -- it is within its product's first N non-spot contracts
  pub is_first : Bool
  -- how far it moved, up or down
  pub size : ℕ
  -- I and E of its product
  pub initial_limit : ℕ
  pub expanded_limit : ℕ

-- a contract that is not on the last ended sheet has no change
abbrev pub move_from : Product → Bool → Contract → Option ℕ → List Move
move_from q is_first c None = []
move_from q is_first c (Some before) =
    record {
      month = c.month;
      product = q.number;
      is_first = is_first;
      size = distance c.settlement before;
      initial_limit = q.initial_limit;
      expanded_limit = q.expanded_limit;
    }
    ∷ []

-- the moves of non-spot contracts, of which the first n can trigger
abbrev pub moves_among : Product → ℕ → Sheet → List Move
moves_among q n [] = []
moves_among q n (c ∷ s) =
    move_from q (ltb 0 n) c (settlement_on (sheet_or q.last) c.month) ++ moves_among q (pred n) s

unfoldable pub product_moves : (ℕ → Bool) → Product → List Move
product_moves spot q = moves_among q (first_of q.number) (keep (λ c. not (spot c.month)) (sheet_or q.today))

-- of each product of the group
unfoldable pub group_moves : Day → Group → List (List Move)
group_moves d g = map (product_moves (is_spot_on d)) g.products

-- exactly I, within the first N
abbrev pub is_trigger : Move → Bool
is_trigger m = m.is_first && eqb m.size m.initial_limit

-- I or more
abbrev pub is_at_least_initial : Move → Bool
is_at_least_initial m = leb m.initial_limit m.size

-- exactly E
abbrev pub is_at_expanded : Move → Bool
is_at_expanded m = eqb m.size m.expanded_limit

-- of the last month of its product's crop year
abbrev pub is_of_last_crop_month : Move → Bool
is_of_last_crop_month m = is_last_crop_month m.product m.month
