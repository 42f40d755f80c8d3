-- Seasons: new limits at an opening, computed.
use Prim.Native.Nat.{ℕ}
use mathlib.Core.Path.{◌≡◌, refl}
use mathlib.Core.Bool.{true, false}
use mathlib.Core.List.{List, [], ◌∷◌, ◌++◌}
use lib.ListN.{replicate}
use Rattle.record.specs.State.{Day}
use Rattle.record.specs.Record.{Call, opened, accepted}
use Rattle.record.proofs.Examples.{corn, soybeans, oil, meal, chicago_wheat, kc_wheat, oats, rice, jul25, nov25, dec25, on, files, of2025, a_book, collected, one_contract, full_day, quiet_day, days_of2025, state_of, opened_unrenewed, Limits, limits, all_renewed, renewal}

-- the limits of the example book
abbrev as_founded : List Limits
as_founded =
    limits 200 320
    ∷ limits 400 600
    ∷ limits 200 300
    ∷ limits 200 300
    ∷ limits 240 360
    ∷ limits 240 360
    ∷ limits 160 240
    ∷ limits 100 150
    ∷ []

-- ---- 45 days from founding
abbrev six_products : List ℕ
six_products = corn ∷ soybeans ∷ oil ∷ meal ∷ chicago_wheat ∷ kc_wheat ∷ []

-- Oats without July on the first day, Rough Rice on every day
abbrev first_day : List Call
first_day = full_day (of2025 1 1) (one_contract oats dec25 6000 ∷ one_contract rice nov25 3000 ∷ []) six_products

abbrev later_day : Day → List Call
later_day d =
    full_day d (files oats (jul25 ∷ dec25 ∷ []) (6000 ∷ 6000 ∷ []) ∷ one_contract rice nov25 3000 ∷ []) six_products

-- the next season: a window of 45 gives new limits, one of 44 or none does not, and all are emptied
pub forty_five_days :
    renewal a_book (first_day ++ days_of2025 later_day 30 1 2 ++ days_of2025 later_day 14 2 1) (on 2025 5 1 21)
    ≡ record {
      answer = accepted (opened (true ∷ true ∷ true ∷ true ∷ true ∷ true ∷ false ∷ false ∷ []));
      limits =
          limits 440 680
          ∷ limits 560 840
          ∷ limits 350 550
          ∷ limits 300 450
          ∷ limits 280 440
          ∷ limits 280 440
          ∷ limits 160 240
          ∷ limits 100 150
          ∷ [];
      windows = replicate 8 [];
    }
unfolding state_of
forty_five_days = refl

-- ---- with windows that are nearly full
-- a 45th settlement and the next season: all eight, Oats too, whose new limits equal the old
pub next_season :
    renewal (collected 44) (quiet_day (on 2025 2 14 0)) (on 2025 5 1 21)
    ≡ all_renewed
unfolding state_of
next_season = refl

-- a 44th and the next season: no new limits, the windows emptied
pub forty_four :
    renewal (collected 43) (quiet_day (on 2025 2 14 0)) (on 2025 5 1 21)
    ≡ record { answer = opened_unrenewed; limits = as_founded; windows = replicate 8 [] }
unfolding state_of
forty_four = refl

-- a season skipped: no new limits, the windows emptied
pub skipped_season :
    renewal (collected 44) (quiet_day (on 2025 2 14 0)) (on 2025 11 3 19)
    ≡ record { answer = opened_unrenewed; limits = as_founded; windows = replicate 8 [] }
unfolding state_of
skipped_season = refl

-- the same season, up to the last of April: the windows stand
pub same_season :
    renewal (collected 1) (quiet_day (on 2025 2 14 0)) (on 2025 4 30 0)
    ≡ record {
      answer = opened_unrenewed;
      limits = as_founded;
      windows =
          (6000 ∷ 6000 ∷ [])
          ∷ (8000 ∷ 8000 ∷ [])
          ∷ (5000 ∷ 5000 ∷ [])
          ∷ (4000 ∷ 4000 ∷ [])
          ∷ (4000 ∷ 4000 ∷ [])
          ∷ (4000 ∷ 4000 ∷ [])
          ∷ (1920 ∷ 1920 ∷ [])
          ∷ (3000 ∷ 3000 ∷ [])
          ∷ [];
    }
unfolding state_of
same_season = refl

-- the first opening resets nothing
pub first_opening :
    renewal (collected 45) [] (on 2025 5 1 21)
    ≡ record {
      answer = opened_unrenewed;
      limits = as_founded;
      windows =
          replicate 45 6000
          ∷ replicate 45 8000
          ∷ replicate 45 5000
          ∷ replicate 45 4000
          ∷ replicate 45 4000
          ∷ replicate 45 4000
          ∷ replicate 45 1920
          ∷ replicate 45 3000
          ∷ [];
    }
unfolding state_of
first_opening = refl
