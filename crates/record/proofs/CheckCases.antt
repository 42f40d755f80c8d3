-- Price checks, computed.
use mathlib.Core.Path.{◌≡◌, refl}
use mathlib.Core.List.{List, [], ◌∷◌, ◌++◌}
use Rattle.grain.specs.declared.check.Verdict.TheVariants.{Free, Within, Below, Above}
use Rattle.record.specs.Record.{Call, filed, checked, refused, accepted}
use Rattle.record.proofs.Examples.{corn, soybeans, oil, meal, chicago_wheat, kc_wheat, jul24, sep24, dec24, mar25, may25, jul25, dec25, june3, june4, june5, june26, june27, on, a_book, opens, files, checks, corn_months, corn_day, flat, complex_day, quiet_day, state_of, opened_unrenewed, answers_after, span}

-- a day has ended with Corn at 4,000; the next is open
abbrev at_initial : List Call
at_initial = corn_day june3 flat ++ opens june4 ∷ []

-- I 200, tick 2: both ends are within, a tick beyond is not
pub initial_ends :
    answers_after a_book at_initial
    (checks corn 0 sep24 3800
    ∷ checks corn 0 sep24 4200
    ∷ checks corn 0 sep24 3798
    ∷ checks corn 0 sep24 4202
    ∷ [])
    ≡ accepted (checked (Within (span 3800 4200))) ∷ accepted (checked (Within (span 3800 4200))) ∷ accepted (checked (Below (span 3800 4200))) ∷ accepted (checked (Above (span 3800 4200))) ∷ []
unfolding state_of
initial_ends = refl

-- a mini has the limits of its standard product, and tick 1
pub mini_ends :
    answers_after a_book at_initial
    (checks corn 1 sep24 3800
    ∷ checks corn 1 sep24 4200
    ∷ checks corn 1 sep24 3799
    ∷ checks corn 1 sep24 4201
    ∷ [])
    ≡ accepted (checked (Within (span 3800 4200))) ∷ accepted (checked (Within (span 3800 4200))) ∷ accepted (checked (Below (span 3800 4200))) ∷ accepted (checked (Above (span 3800 4200))) ∷ []
unfolding state_of
mini_ends = refl

-- the same after a move by I: Corn's July at 4,200, the others at 4,000
abbrev at_expanded : List Call
at_expanded =
    corn_day june3 flat ++ corn_day june4 (4200 ∷ 4000 ∷ 4000 ∷ 4000 ∷ 4000 ∷ 4000 ∷ []) ++ opens june5 ∷ []

-- E 320
pub expanded_ends :
    answers_after a_book at_expanded
    (checks corn 0 sep24 3680
    ∷ checks corn 0 sep24 4320
    ∷ checks corn 0 sep24 3678
    ∷ checks corn 0 sep24 4322
    ∷ checks corn 0 jul24 4520
    ∷ checks corn 0 jul24 4522
    ∷ [])
    ≡ accepted (checked (Within (span 3680 4320)))
    ∷ accepted (checked (Within (span 3680 4320)))
    ∷ accepted (checked (Below (span 3680 4320)))
    ∷ accepted (checked (Above (span 3680 4320)))
    ∷ accepted (checked (Within (span 3880 4520)))
    ∷ accepted (checked (Above (span 3880 4520)))
    ∷ []
unfolding state_of
expanded_ends = refl

-- ---- spot
-- left 2: July is not spot
pub before_spot :
    answers_after a_book (corn_day june3 flat ++ opens june26 ∷ []) (checks corn 0 jul24 4202 ∷ []) ≡ accepted (checked (Above (span 3800 4200))) ∷ []
unfolding state_of
before_spot = refl

-- left 1: July is spot and free, September is not
pub on_spot :
    answers_after a_book (corn_day june3 flat ++ opens june27 ∷ [])
    (checks corn 0 jul24 4202 ∷ checks corn 0 jul24 1000000 ∷ checks corn 0 sep24 4202 ∷ [])
    ≡ accepted (checked Free) ∷ accepted (checked Free) ∷ accepted (checked (Above (span 3800 4200))) ∷ []
unfolding state_of
on_spot = refl

-- in its own month a contract is spot whatever is left
pub own_month :
    answers_after a_book (corn_day june3 flat ++ opens (on 2024 7 1 22) ∷ []) (checks corn 0 jul24 2 ∷ []) ≡ accepted (checked Free) ∷ []
unfolding state_of
own_month = refl

-- ---- refusals
-- 5 before 14: no such product, or a size not offered, in a month not listed
pub product_before_month :
    answers_after a_book at_initial (checks 8 0 1 4000 ∷ checks oil 1 1 4000 ∷ checks kc_wheat 1 1 4000 ∷ checks corn 2 1 4000 ∷ [])
    ≡ refused 5 ∷ refused 5 ∷ refused 5 ∷ refused 5 ∷ []
unfolding state_of
product_before_month = refl

-- 14 before 8: a month not on the last ended sheet, at a price off the tick
pub month_before_price :
    answers_after a_book at_initial (checks corn 0 dec25 4001 ∷ checks corn 0 sep24 4001 ∷ []) ≡ refused 14 ∷ refused 8 ∷ []
unfolding state_of
month_before_price = refl

-- 8 before free: a spot contract's price off the tick or out of the range
pub price_before_spot :
    answers_after a_book (corn_day june3 flat ++ opens june27 ∷ [])
    (checks corn 0 jul24 4001 ∷ checks corn 0 jul24 0 ∷ checks corn 0 jul24 1000002 ∷ [])
    ≡ refused 8 ∷ refused 8 ∷ refused 8 ∷ []
unfolding state_of
price_before_spot = refl

-- with no day open a check is refused 2, and on the first day 14
pub no_settlement :
    answers_after a_book [] (checks corn 0 sep24 4000 ∷ opens june3 ∷ checks corn 0 sep24 4000 ∷ [])
    ≡ refused 2 ∷ opened_unrenewed ∷ refused 14 ∷ []
unfolding state_of
no_settlement = refl

-- a listed month before the open day's month is refused 14
pub month_passed :
    answers_after a_book (corn_day june3 flat ++ opens (on 2024 8 1 21) ∷ [])
    (checks corn 0 jul24 4000 ∷ checks corn 0 sep24 4000 ∷ [])
    ≡ refused 14 ∷ accepted (checked (Within (span 3800 4200))) ∷ []
unfolding state_of
month_passed = refl

-- a sheet that is in today changes no check
pub sheet_in_today :
    answers_after a_book at_initial
    (files corn corn_months (4200 ∷ 4000 ∷ 4000 ∷ 4000 ∷ 4000 ∷ 4000 ∷ [])
    ∷ checks corn 0 jul24 4200
    ∷ checks corn 0 jul24 4202
    ∷ [])
    ≡ accepted filed ∷ accepted (checked (Within (span 3800 4200))) ∷ accepted (checked (Above (span 3800 4200))) ∷ []
unfolding state_of
sheet_in_today = refl

-- ---- the Soybean Complex
-- the day after Oil alone moved by its I, each of the three has its own E: the ends, and a tick beyond
pub complex_ends :
    answers_after a_book (complex_day june3 8000 5000 4000 ++ complex_day june4 8000 5200 4000 ++ opens june5 ∷ [])
    (checks soybeans 0 jul25 8600
    ∷ checks soybeans 0 jul25 8602
    ∷ checks oil 0 jul25 4900
    ∷ checks oil 0 jul25 4899
    ∷ checks meal 0 jul25 4300
    ∷ checks meal 0 jul25 4301
    ∷ [])
    ≡ accepted (checked (Within (span 7400 8600)))
    ∷ accepted (checked (Above (span 7400 8600)))
    ∷ accepted (checked (Within (span 4900 5500)))
    ∷ accepted (checked (Below (span 4900 5500)))
    ∷ accepted (checked (Within (span 3700 4300)))
    ∷ accepted (checked (Above (span 3700 4300)))
    ∷ []
unfolding state_of
complex_ends = refl

-- ---- spans at the ends of the prices
-- a day has ended with Corn's contracts about its limit of 200 and about 1,000,000 less that; the next is open
abbrev at_the_edges : List Call
at_the_edges = corn_day june3 (200 ∷ 202 ∷ 204 ∷ 100 ∷ 999800 ∷ 999802 ∷ []) ++ opens june4 ∷ []

-- the low end is not under the tick of the order's size: 2, and 1 for a mini
pub low_clamped :
    answers_after a_book at_the_edges
    (checks corn 0 jul24 2
    ∷ checks corn 1 jul24 1
    ∷ checks corn 0 sep24 2
    ∷ checks corn 1 sep24 1
    ∷ checks corn 0 dec24 2
    ∷ checks corn 0 mar25 302
    ∷ checks corn 1 mar25 301
    ∷ [])
    ≡ accepted (checked (Within (span 2 400)))
    ∷ accepted (checked (Within (span 1 400)))
    ∷ accepted (checked (Within (span 2 402)))
    ∷ accepted (checked (Below (span 2 402)))
    ∷ accepted (checked (Below (span 4 404)))
    ∷ accepted (checked (Above (span 2 300)))
    ∷ accepted (checked (Above (span 1 300)))
    ∷ []
unfolding state_of
low_clamped = refl

-- the high end is not over 1,000,000
pub high_clamped :
    answers_after a_book at_the_edges
    (checks corn 0 may25 1000000 ∷ checks corn 0 jul25 1000000 ∷ checks corn 1 jul25 999601 ∷ checks corn 0 jul25 1000002 ∷ [])
    ≡ accepted (checked (Within (span 999600 1000000)))
    ∷ accepted (checked (Within (span 999602 1000000)))
    ∷ accepted (checked (Below (span 999602 1000000)))
    ∷ refused 8
    ∷ []
unfolding state_of
high_clamped = refl

-- the three minis at odd prices
pub odd_prices :
    answers_after a_book (quiet_day june3 ++ opens june4 ∷ [])
    (checks corn 1 jul25 6199
    ∷ checks corn 1 jul25 6201
    ∷ checks soybeans 1 jul25 8401
    ∷ checks soybeans 1 jul25 7601
    ∷ checks chicago_wheat 1 jul25 3759
    ∷ checks chicago_wheat 1 jul25 3761
    ∷ [])
    ≡ accepted (checked (Within (span 5800 6200)))
    ∷ accepted (checked (Above (span 5800 6200)))
    ∷ accepted (checked (Above (span 7600 8400)))
    ∷ accepted (checked (Within (span 7600 8400)))
    ∷ accepted (checked (Below (span 3760 4240)))
    ∷ accepted (checked (Within (span 3760 4240)))
    ∷ []
unfolding state_of
odd_prices = refl

-- a settlement above I and not above E: on the expanded level the low end is the tick
pub expanded_clamped :
    answers_after a_book
    (corn_day june3 (4000 ∷ 300 ∷ 4000 ∷ 4000 ∷ 4000 ∷ 4000 ∷ [])
    ++ corn_day june4 (4200 ∷ 300 ∷ 4000 ∷ 4000 ∷ 4000 ∷ 4000 ∷ [])
    ++ opens june5
    ∷ [])
    (checks corn 0 sep24 2 ∷ checks corn 1 sep24 621 ∷ checks corn 0 jul24 4522 ∷ [])
    ≡ accepted (checked (Within (span 2 620))) ∷ accepted (checked (Above (span 1 620))) ∷ accepted (checked (Above (span 3880 4520))) ∷ []
unfolding state_of
expanded_clamped = refl
