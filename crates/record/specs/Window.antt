-- The window of a product: the last 45 collected settlements, oldest first.
use Rattle.std.specs.Prelude.{ℕ, ◌+◌, ◌-◌, Bool, ◌&&◌, ◌||◌, cond, List, [], ◌∷◌, ◌++◌, leb, ltb, eqb, length, drop, Option, Some, None}
use Rattle.grain.specs.Dates.{contract_month}
use Rattle.grain.specs.Amounts.{window_length}
use Rattle.record.specs.State.{Day, Sheet, settlement_on}

-- the date is before the month, or in its first 15 days
abbrev pub up_to_middle_of : ℕ → Day → Bool
up_to_middle_of month d = ltb d.month month || (eqb d.month month && leb d.day 15)

-- the month whose contract is collected from May on: December, for Soybeans and Rough Rice November
abbrev pub new_crop_month : ℕ → ℕ
new_crop_month p = cond (eqb p 1 || eqb p 7) 11 12

-- the contract that is collected, or none where windows rest: the next July from November to 15 April, the new crop's from May to 15 October
unfoldable pub collected_month : Day → ℕ → Option ℕ
collected_month d p =
    cond (leb 11 d.month) (Some (contract_month (d.year + 1) 7))
    (cond (up_to_middle_of 4 d) (Some (contract_month d.year 7))
    (cond (leb 5 d.month && up_to_middle_of 10 d) (Some (contract_month d.year (new_crop_month p))) None))

-- a contract that is not on the sheet empties the window; a 46th settlement pushes out the oldest
abbrev pub collect : List ℕ → Option ℕ → List ℕ
collect w None = []
collect w (Some v) = let l = w ++ (v ∷ []) in drop (length l - window_length) l

abbrev pub window_by : List ℕ → Sheet → Option ℕ → List ℕ
window_by w s None = w
window_by w s (Some month) = collect w (settlement_on s month)

unfoldable pub window_after : Day → ℕ → List ℕ → Sheet → List ℕ
window_after d p w s = window_by w s (collected_month d p)
