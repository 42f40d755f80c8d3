-- The editions of the rule, by year, and all in which their days differ: what the end of a day asks of a group's moves.
use Rattle.std.specs.Prelude.{ℕ, Bool, true, false, ◌||◌, cond, List, leb, eqb, length}
use Rattle.std.specs.List.{list_any}
use Rattle.record.specs.Move.{Move, is_at_least_initial, is_at_expanded, is_of_last_crop_month}

pub record Conditions : Type 0 where
  -- a product's moves of exactly I, within its first N, are enough to trigger
  pub are_enough : List Move → Bool
  -- a move holds an expanded group
  pub is_holding : Move → Bool
  -- a group that is held with a move of exactly E is marked, and so can be raised
  pub has_marks : Bool

-- two contracts are enough, or one of the last crop-year month
abbrev pub of2014 : Conditions
of2014 =
    record {
      are_enough = λ ms. leb 2 (length ms) || list_any is_of_last_crop_month ms;
      is_holding = is_at_expanded;
      has_marks = false;
    }

-- one contract is enough
abbrev pub of2023 : Conditions
of2023 = record { are_enough = λ ms. true; is_holding = is_at_least_initial; has_marks = true }

abbrev pub is_edition : ℕ → Bool
is_edition e = eqb e 2014 || eqb e 2023

-- of an edition; a book of no edition is unsound, and its end refused
unfoldable pub conditions_of : ℕ → Conditions
conditions_of e = cond (eqb e 2014) of2014 of2023
