-- The first number in a call's order that refuses it. The numbers themselves are grain's.
use Rattle.std.specs.Prelude.{ℕ, Bool, cond, List, [], ◌∷◌, Option, Some, None}
pub use Rattle.grain.specs.Refusals.{unsound, wrong_phase, not_later, bad_month, contract_absent, beyond_limit, already_in, sheet_outstanding, not_listed, left_not_smaller, unknown_edition, group_expanded}

-- A test with the number that is returned where it applies.
pub record Test : Type 0 where
  pub applies : Bool
  pub number : ℕ

abbrev pub when : Bool → ℕ → Test
when b n = record { applies = b; number = n }

-- the first number of a call's order that applies
abbrev pub first : List Test → Option ℕ
first [] = None
first (t ∷ l) = cond t.applies (Some t.number) (first l)
