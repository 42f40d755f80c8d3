-- Windows: what an end collects, computed.
use Prim.Native.Nat.{ℕ}
use mathlib.Core.Path.{◌≡◌, refl}
use mathlib.Core.List.{List, [], ◌∷◌, ◌++◌}
use lib.ListN.{replicate, get_or}
use Rattle.record.specs.State.{Day}
use Rattle.record.specs.Record.{Call}
use Rattle.record.proofs.Examples.{corn, soybeans, oil, meal, chicago_wheat, kc_wheat, oats, rice, jul25, nov25, dec25, jul26, on, a_book, a_book_with, files, one_contract, full_day, corn_july_day, not_corn, state_of, windows_of}

-- a settlement of each product
abbrev one_of_each : List (List ℕ)
one_of_each =
    (6000 ∷ [])
    ∷ (8000 ∷ [])
    ∷ (5000 ∷ [])
    ∷ (4000 ∷ [])
    ∷ (4000 ∷ [])
    ∷ (4000 ∷ [])
    ∷ (1920 ∷ [])
    ∷ (3000 ∷ [])
    ∷ []

-- 15 April is collected, 16 April rests
pub middle_of_april :
    windows_of (state_of a_book (corn_july_day (on 2025 4 15 10) 6000 ++ corn_july_day (on 2025 4 16 9) 6100))
    ≡ one_of_each
unfolding state_of
middle_of_april = refl

-- a day with December 2025, for Soybeans and Rough Rice November, and another July beside it
abbrev new_crop_day : Day → ℕ → ℕ → List Call
new_crop_day d c s =
    full_day d
    (files corn (dec25 ∷ jul26 ∷ []) (c ∷ 6100 ∷ [])
    ∷ files soybeans (nov25 ∷ jul26 ∷ []) (s ∷ 8100 ∷ [])
    ∷ files oil (dec25 ∷ jul26 ∷ []) (5000 ∷ 5100 ∷ [])
    ∷ files meal (dec25 ∷ jul26 ∷ []) (4000 ∷ 4100 ∷ [])
    ∷ files chicago_wheat (dec25 ∷ jul26 ∷ []) (4000 ∷ 4100 ∷ [])
    ∷ files kc_wheat (dec25 ∷ jul26 ∷ []) (4000 ∷ 4100 ∷ [])
    ∷ files oats (dec25 ∷ jul26 ∷ []) (1920 ∷ 2020 ∷ [])
    ∷ files rice (nov25 ∷ jul26 ∷ []) (3000 ∷ 3100 ∷ [])
    ∷ [])
    []

-- 15 October is collected, also a November that is spot by then; 16 October rests
pub middle_of_october :
    windows_of (state_of a_book (new_crop_day (on 2025 10 15 1) 6000 8000 ++ new_crop_day (on 2025 10 16 0) 6200 8200))
    ≡ one_of_each
unfolding state_of
middle_of_october = refl

-- from 1 May on the new crop's contract is collected
pub first_of_may :
    windows_of (state_of a_book (new_crop_day (on 2025 5 1 21) 6000 8000))
    ≡ one_of_each
unfolding state_of
first_of_may = refl

abbrev corn_window : List Call → List ℕ
corn_window cs = get_or (windows_of (state_of a_book cs)) corn []

abbrev two_julys : Day → ℕ → List Call
two_julys d settlement = full_day d (files corn (jul25 ∷ jul26 ∷ []) (settlement ∷ 7000 ∷ []) ∷ []) not_corn

-- the next July: next year's in November and December, this year's from January on
pub next_july :
    corn_window
    (two_julys (on 2024 11 1 0) 6000 ++ two_julys (on 2024 12 31 0) 6002 ++ two_julys (on 2025 1 2 0) 6004)
    ≡ 6000 ∷ 6002 ∷ 6004 ∷ []
unfolding state_of
next_july = refl

-- two settlements are in each window
abbrev two_collected : ℕ → List ℕ
two_collected p = 6000 ∷ 6002 ∷ []

abbrev only_december : Day → List Call
only_december d = full_day d (one_contract corn dec25 6000 ∷ []) not_corn

-- on a day that collects, a sheet without the contract empties the window
pub missing_july : get_or (windows_of (state_of (a_book_with two_collected) (only_december (on 2025 4 15 0)))) corn [] ≡ []
unfolding state_of
missing_july = refl

-- on a day that rests it does not
pub missing_at_rest :
    get_or (windows_of (state_of (a_book_with two_collected) (only_december (on 2025 4 16 0)))) corn [] ≡ 6000 ∷ 6002 ∷ []
unfolding state_of
missing_at_rest = refl

-- a 46th settlement pushes out the oldest
pub forty_sixth :
    get_or (windows_of (state_of (a_book_with (λ p. 5900 ∷ replicate 44 6000)) (corn_july_day (on 2025 2 14 0) 6100))) corn []
    ≡ replicate 44 6000 ++ (6100 ∷ [])
unfolding state_of
forty_sixth = refl
