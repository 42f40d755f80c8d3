-- Refused foundings, openings, sheets and ends, computed.
use Prim.Native.Nat.{ℕ}
use mathlib.Core.Path.{◌≡◌, refl}
use mathlib.Core.List.{List, [], ◌∷◌, ◌++◌, map}
use Rattle.std.specs.Prelude.{Option, Some, None}
use lib.ListN.{replicate, take}
use Rattle.grain.specs.Dates.{contract_month}
use Rattle.record.specs.Founding.{founding_refusal}
use Rattle.record.specs.Record.{Call, filed, refused, accepted}
use Rattle.record.proofs.Examples.{corn, oil, jul24, aug24, sep24, oct24, dec24, mar25, may25, jul25, june3, june4, june5, june26, june27, on, corn_at200, a_book, opens, files, ends, one_contract, corn_months, corn_day, flat, state_of, opened_unrenewed, answers_after}

-- ---- founding: 17 13
abbrev founding_of : ℕ → List ℕ → Option ℕ
founding_of edition limits = founding_refusal (record { edition = edition; limits = limits })

-- the ends of the range are fit, under both editions
abbrev extremes : List ℕ
extremes = 160 ∷ 1000000 ∷ 1000000 ∷ 200 ∷ 240 ∷ 240 ∷ 160 ∷ 1000000 ∷ []

pub fit : founding_refusal corn_at200 ∷ founding_of 2014 extremes ∷ founding_of 2023 extremes ∷ [] ≡ replicate 3 None
unfolding state_of
fit = refl

-- Oil off its step; Soybeans below their floor; Rough Rice above 1,000,000; no limit for Rough Rice
pub unfit :
    founding_of 2014 (200 ∷ 400 ∷ 240 ∷ 200 ∷ 240 ∷ 240 ∷ 160 ∷ 100 ∷ [])
    ∷ founding_of 2023 (200 ∷ 360 ∷ 200 ∷ 200 ∷ 240 ∷ 240 ∷ 160 ∷ 100 ∷ [])
    ∷ founding_of 2023 (200 ∷ 400 ∷ 200 ∷ 200 ∷ 240 ∷ 240 ∷ 160 ∷ 1000010 ∷ [])
    ∷ founding_of 2023 (200 ∷ 400 ∷ 200 ∷ 200 ∷ 240 ∷ 240 ∷ 160 ∷ [])
    ∷ []
    ≡ replicate 4 (Some 13)
unfolding state_of
unfit = refl

-- no edition, the years about the two included; 17 before 13
pub no_edition :
    map (λ e. founding_of e extremes) (0 ∷ 2013 ∷ 2015 ∷ 2022 ∷ 2024 ∷ []) ++ (founding_of 2019 [] ∷ []) ≡ replicate 6 (Some 17)
unfolding state_of
no_edition = refl

-- ---- opening: 2 3 4 16
-- 2 before 3: a false date with a day open
pub day_open :
    answers_after a_book [] (opens (on 2024 2 29 0) ∷ opens (on 2024 2 30 0) ∷ []) ≡ opened_unrenewed ∷ refused 2 ∷ []
unfolding state_of
day_open = refl

-- a day has ended on 3 June 2024
abbrev ended3 : List Call
ended3 = corn_day june3 flat

-- no such date; left above the days remaining in the month
pub false_dates :
    answers_after a_book ended3
    (opens (on 2023 2 29 0) ∷ opens (on 2099 1 4 0) ∷ opens (on 2024 7 1 31) ∷ opens (on 2024 7 1 30) ∷ [])
    ≡ refused 3 ∷ refused 3 ∷ refused 3 ∷ opened_unrenewed ∷ []
unfolding state_of
false_dates = refl

-- not later than the last opened
pub not_later :
    answers_after a_book ended3 (opens june3 ∷ opens (on 2024 5 31 0) ∷ opens (on 2023 12 29 0) ∷ opens june4 ∷ [])
    ≡ refused 4 ∷ refused 4 ∷ refused 4 ∷ opened_unrenewed ∷ []
unfolding state_of
not_later = refl

-- 18 are left on 3 June: neither as many nor more are on 4 June, and 17 may be
pub left_not_smaller :
    answers_after a_book ended3 (opens (on 2024 6 4 18) ∷ opens (on 2024 6 4 26) ∷ opens (on 2024 6 4 17) ∷ [])
    ≡ refused 16 ∷ refused 16 ∷ opened_unrenewed ∷ []
unfolding state_of
left_not_smaller = refl

-- 3 and 4 before 16
pub left_judged_last :
    answers_after a_book ended3 (opens (on 2024 6 4 27) ∷ opens (on 2024 6 3 18) ∷ opens (on 2024 6 1 20) ∷ [])
    ≡ refused 3 ∷ refused 4 ∷ refused 4 ∷ []
unfolding state_of
left_judged_last = refl

-- a month whose last opened day had none left opens no other; the next month begins with any left
pub next_month :
    answers_after a_book (corn_day (on 2024 6 28 0) flat) (opens (on 2024 6 29 0) ∷ opens (on 2024 7 1 22) ∷ [])
    ≡ refused 16 ∷ opened_unrenewed ∷ []
unfolding state_of
next_month = refl

-- the same month of another year is another month
pub another_year : answers_after a_book ended3 (opens (on 2025 6 3 18) ∷ []) ≡ opened_unrenewed ∷ []
unfolding state_of
another_year = refl

-- the last opened day counts, and neither one before it nor a refused one
pub last_opened_counts :
    answers_after a_book (ended3 ++ corn_day june5 flat)
    (opens (on 2024 6 6 17) ∷ opens (on 2024 6 7 16) ∷ opens (on 2024 6 7 15) ∷ [])
    ≡ refused 16 ∷ refused 16 ∷ opened_unrenewed ∷ []
unfolding state_of
last_opened_counts = refl

-- ---- sheet: 2 5 11 6 7 8 9 10
abbrev open4 : List Call
open4 = ended3 ++ opens june4 ∷ []

-- sheet and end with no day open
pub no_day_open : answers_after a_book ended3 (files 8 [] [] ∷ ends ∷ []) ≡ refused 2 ∷ refused 2 ∷ []
unfolding state_of
no_day_open = refl

-- 5 before 6, 11 before 6; 11 only where the sheet was accepted
pub already_in :
    answers_after a_book open4 (files 8 [] [] ∷ files corn [] [] ∷ files corn corn_months flat ∷ files corn [] [] ∷ [])
    ≡ refused 5 ∷ refused 6 ∷ accepted filed ∷ refused 11 ∷ []
unfolding state_of
already_in = refl

-- the Corn contracts of a year
abbrev all_months : ℕ → List ℕ
all_months year =
    contract_month year 3
    ∷ contract_month year 5
    ∷ contract_month year 7
    ∷ contract_month year 9
    ∷ contract_month year 12
    ∷ []

-- array lengths differ, 17 entries; 16 are accepted
pub entries :
    answers_after a_book open4
    (files oil (jul25 ∷ []) (5000 ∷ 5000 ∷ [])
    ∷ files oil (jul25 ∷ may25 ∷ []) (5000 ∷ [])
    ∷ files corn (jul24 ∷ sep24 ∷ dec24 ∷ all_months 2025 ++ all_months 2026 ++ take 4 (all_months 2027)) (replicate 17 4000)
    ∷ files corn (jul24 ∷ sep24 ∷ dec24 ∷ all_months 2025 ++ all_months 2026 ++ take 3 (all_months 2027)) (replicate 16 4000)
    ∷ [])
    ≡ refused 6 ∷ refused 6 ∷ refused 6 ∷ accepted filed ∷ []
unfolding state_of
entries = refl

-- not traded, not strictly ascending, before the date's month
pub bad_months :
    answers_after a_book open4
    (one_contract corn aug24 4000
    ∷ files corn (jul24 ∷ sep24 ∷ sep24 ∷ []) (4000 ∷ 4000 ∷ 4000 ∷ [])
    ∷ one_contract corn (contract_month 2024 5) 4000
    ∷ [])
    ≡ refused 7 ∷ refused 7 ∷ refused 7 ∷ []
unfolding state_of
bad_months = refl

-- the date's own month is no bad month
pub own_month :
    answers_after a_book (ended3 ++ opens (on 2024 7 1 22) ∷ []) (files corn corn_months flat ∷ []) ≡ accepted filed ∷ []
unfolding state_of
own_month = refl

-- 7 before 8, over all entries: the first settlement is off its tick, the last month not traded
pub month_before_settlement :
    answers_after a_book open4 (files corn (jul24 ∷ sep24 ∷ oct24 ∷ []) (4001 ∷ 4000 ∷ 4000 ∷ []) ∷ [])
    ≡ refused 7 ∷ []
unfolding state_of
month_before_settlement = refl

-- 8 before 9: off the standard tick, 0, above 1,000,000, on sheets that lack contracts
pub settlement_before_absent :
    answers_after a_book open4 (one_contract corn jul24 4001 ∷ one_contract corn jul24 0 ∷ one_contract corn jul24 1000002 ∷ [])
    ≡ refused 8 ∷ refused 8 ∷ refused 8 ∷ []
unfolding state_of
settlement_before_absent = refl

-- 9 before 10: July beyond the limit, September absent
pub absent_before_beyond :
    answers_after a_book open4
    (files corn (jul24 ∷ dec24 ∷ mar25 ∷ may25 ∷ jul25 ∷ []) (5000 ∷ 4000 ∷ 4000 ∷ 4000 ∷ 4000 ∷ []) ∷ [])
    ≡ refused 9 ∷ []
unfolding state_of
absent_before_beyond = refl

-- five contracts, July 2024 absent
abbrev without_july : Call
without_july = files corn (sep24 ∷ dec24 ∷ mar25 ∷ may25 ∷ jul25 ∷ []) (4000 ∷ 4000 ∷ 4000 ∷ 4000 ∷ 4000 ∷ [])

-- left 2: July is not spot and must not be absent
pub absent : answers_after a_book (ended3 ++ opens june26 ∷ []) (without_july ∷ []) ≡ refused 9 ∷ []
unfolding state_of
absent = refl

-- left 1: July is spot and may be absent
pub spot_absent : answers_after a_book (ended3 ++ opens june27 ∷ []) (without_july ∷ []) ≡ accepted filed ∷ []
unfolding state_of
spot_absent = refl

-- a tick beyond I up or down; exactly I
pub beyond_initial :
    answers_after a_book open4
    (files corn corn_months (4000 ∷ 4000 ∷ 4000 ∷ 4000 ∷ 4000 ∷ 4202 ∷ [])
    ∷ files corn corn_months (3798 ∷ 4000 ∷ 4000 ∷ 4000 ∷ 4000 ∷ 4000 ∷ [])
    ∷ files corn corn_months (4200 ∷ 4000 ∷ 4000 ∷ 4000 ∷ 4000 ∷ 3800 ∷ [])
    ∷ [])
    ≡ refused 10 ∷ refused 10 ∷ accepted filed ∷ []
unfolding state_of
beyond_initial = refl

-- a tick beyond E up or down; exactly E
pub beyond_expanded :
    answers_after a_book
    (ended3 ++ corn_day june4 (4200 ∷ 4000 ∷ 4000 ∷ 4000 ∷ 4000 ∷ 4000 ∷ []) ++ opens june5 ∷ [])
    (files corn corn_months (4522 ∷ 4000 ∷ 4000 ∷ 4000 ∷ 4000 ∷ 4000 ∷ [])
    ∷ files corn corn_months (4200 ∷ 4000 ∷ 4000 ∷ 4000 ∷ 4000 ∷ 3678 ∷ [])
    ∷ files corn corn_months (4520 ∷ 4000 ∷ 4000 ∷ 4000 ∷ 4000 ∷ 3680 ∷ [])
    ∷ [])
    ≡ refused 10 ∷ refused 10 ∷ accepted filed ∷ []
unfolding state_of
beyond_expanded = refl

-- left 2: July, not spot, may not move by 5,000
pub beyond_before_spot :
    answers_after a_book (ended3 ++ opens june26 ∷ [])
    (files corn corn_months (9000 ∷ 4000 ∷ 4000 ∷ 4000 ∷ 4000 ∷ 4000 ∷ []) ∷ [])
    ≡ refused 10 ∷ []
unfolding state_of
beyond_before_spot = refl

-- left 1: July, spot, may
pub beyond_on_spot :
    answers_after a_book (ended3 ++ opens june27 ∷ [])
    (files corn corn_months (9000 ∷ 4000 ∷ 4000 ∷ 4000 ∷ 4000 ∷ 4000 ∷ []) ∷ [])
    ≡ accepted filed ∷ []
unfolding state_of
beyond_on_spot = refl

-- a contract that is not on the last ended sheet has no limit, and its month no upper end
pub new_contract :
    answers_after a_book open4
    (files corn (corn_months ++ 4294967294 ∷ []) (4000 ∷ 4000 ∷ 4000 ∷ 4000 ∷ 4000 ∷ 4000 ∷ 1000000 ∷ []) ∷ [])
    ≡ accepted filed ∷ []
unfolding state_of
new_contract = refl

-- ---- end: 2 12
-- seven of eight sheets are in
pub sheet_outstanding :
    answers_after a_book
    (opens june3
    ∷ one_contract 0 jul25 6000
    ∷ one_contract 1 jul25 8000
    ∷ one_contract 2 jul25 5000
    ∷ one_contract 3 jul25 4000
    ∷ one_contract 4 jul25 4000
    ∷ one_contract 5 jul25 4000
    ∷ one_contract 6 jul25 1920
    ∷ [])
    (ends ∷ [])
    ≡ refused 12 ∷ []
unfolding state_of
sheet_outstanding = refl
