-- Further example books and days, for the vectors.
use Prim.Native.Nat.{ℕ, zero, suc, ◌+◌}
use mathlib.Core.Path.{◌≡◌, refl, sym, ◌∙◌, ap}
use mathlib.Core.Bool.{true, false}
use mathlib.Core.List.{List, [], ◌∷◌, ◌++◌, map}
use lib.ListN.{replicate}
use Rattle.grain.specs.Lists.{◌and◌, every, is_ascending}
use Rattle.grain.specs.Products.{steps, floors, firsts, last_crop_months, standard_ticks, mini_ticks, grain_months, soybean_months, oil_and_meal_months, rice_months, months_traded, tick_of, is_traded, is_last_crop_month}
use Rattle.grain.specs.Prices.{is_on_tick}
use Rattle.grain.specs.Amounts.{expanded_by, season_by, is_fit}
use Rattle.grain.specs.Dates.{is_leap, month_length, is_date, contract_month, season_number, days_remaining}
use Rattle.grain.specs.Spot.{is_spot}
use Rattle.grain.specs.Check.{span_by, verdict}
use Rattle.record.specs.Choices.{concat_map}
use Rattle.record.specs.State.{Day, Product, Group, Record, with_products, with_window, group_table, group_at}
use Rattle.record.specs.Founding.{Start, are_fit, founding_refusal, found_product, found_group, founded}
use Rattle.record.specs.Opening.{is_true_day, opening_tests, is_renewed, open_product, has_new_limits, open_group}
use Rattle.record.specs.Sheet.{is_misshapen, has_bad_month, has_bad_settlement, lacks_contract, is_beyond, sheet_tests, file_product, file_group}
use Rattle.record.specs.Window.{collected_month, window_after}
use Rattle.record.specs.Move.{product_moves, group_moves}
use Rattle.record.specs.Edition.{conditions_of}
use Rattle.record.specs.End.{event_of, group_event, end_product, end_group}
use Rattle.record.specs.Check.{terms_tests, order_tests, judged}
use Rattle.record.specs.Sound.{is_sound_sheet, is_sound_window, is_sound_product, is_sound_group, is_sound_date, is_sound}
use Rattle.record.specs.Conversion.{conversion_tests}
use Rattle.record.specs.Record.{convert, Call, change, opened, Answer, accepted, is_outstanding, tests, refusal, answer, next_common, next_group, next, Response, respond, state_after, answers}
use Rattle.record.specs.History.{kept_from}
unfoldable pub use Rattle.record.specs.Examples.{outcome}
pub use Rattle.record.specs.Examples.{corn, soybeans, oil, meal, chicago_wheat, kc_wheat, oats, rice, corn_group, complex, jul24, sep24, dec24, mar25, may25, jul25, on, june3, june4, june5, june6, june26, june27, corn_at200, a_book, usual_settlement, opens, files, ends, checks, one_contract, unmoved, full_day, corn_months, not_corn, corn_day, flat, not_complex, complex_day, answers_after, span, Limits, limits, limits_of, lead, events_of, Outcome, outcome_by}

-- ---- groups, contract months, days, books and lists of calls
-- Chicago Wheat and KC Wheat
abbrev pub wheats : ℕ
wheats = 2

-- the group of Oats
abbrev pub oats_group : ℕ
oats_group = 3

abbrev pub aug24 : ℕ
aug24 = contract_month 2024 8

abbrev pub oct24 : ℕ
oct24 = contract_month 2024 10

abbrev pub jan25 : ℕ
jan25 = contract_month 2025 1

abbrev pub nov25 : ℕ
nov25 = contract_month 2025 11

abbrev pub dec25 : ℕ
dec25 = contract_month 2025 12

abbrev pub jul26 : ℕ
jul26 = contract_month 2026 7

abbrev pub june7 : Day
june7 = on 2024 6 7 14

-- the same under 2014
abbrev pub old_start : Start
old_start = record { edition = 2014; limits = corn_at200.limits }

abbrev pub old_book : Record
old_book = founded old_start

abbrev collecting : (ℕ → List ℕ) → Group → Group
collecting windows g = with_products (map (λ q. with_window (windows q.number) q) g.products) g

-- a book with these windows
abbrev with_windows : (ℕ → List ℕ) → Record → Record
with_windows windows r = record { common = r.common; groups = map (collecting windows) r.groups }

abbrev pub a_book_with : (ℕ → List ℕ) → Record
a_book_with windows = with_windows windows a_book

-- a book with so many of it in a product's window
abbrev pub collected_in : Record → (ℕ → ℕ) → Record
collected_in r counts = with_windows (λ p. replicate (counts p) (usual_settlement p)) r

abbrev pub collected : ℕ → Record
collected n = collected_in a_book (λ p. n)

abbrev pub converts : Call
converts = change convert

-- a day on which no product moves
abbrev pub quiet_day : Day → List Call
quiet_day d = full_day d [] (corn ∷ soybeans ∷ oil ∷ meal ∷ chicago_wheat ∷ kc_wheat ∷ oats ∷ rice ∷ [])

-- a day with Corn's July 2025 at a settlement; no other product moves
abbrev pub corn_july_day : Day → ℕ → List Call
corn_july_day d settlement = full_day d (one_contract corn jul25 settlement ∷ []) not_corn

-- a day of 2025, with the calendar days remaining as its left: those fall where every day is opened
abbrev pub of2025 : ℕ → ℕ → Day
of2025 month day = on 2025 month day (days_remaining 2025 month day)

-- a count of days in a row, in a month of 2025, from a day of it
abbrev pub days_of2025 : (Day → List Call) → ℕ → ℕ → ℕ → List Call
days_of2025 calls zero month day = []
days_of2025 calls (suc n) month day = calls (of2025 month day) ++ days_of2025 calls n month (day + 1)

-- ---- what is computed
-- The Record after a list of calls. Its line opens every definition of the Record, so that a vector names only this one.
unfoldable pub state_of : Record → List Call → Record
unfolding ◌and◌ every is_ascending steps floors firsts last_crop_months standard_ticks mini_ticks grain_months soybean_months oil_and_meal_months rice_months months_traded tick_of is_traded is_last_crop_month is_on_tick expanded_by season_by is_fit is_leap month_length is_date contract_month season_number days_remaining is_spot span_by verdict group_table found_product found_group founded are_fit founding_refusal is_true_day opening_tests is_renewed open_product has_new_limits open_group is_misshapen has_bad_month has_bad_settlement lacks_contract is_beyond sheet_tests file_product file_group collected_month window_after product_moves group_moves conditions_of event_of group_event end_product end_group terms_tests order_tests judged is_sound_sheet is_sound_window is_sound_product is_sound_group is_sound_date is_sound conversion_tests is_outstanding tests refusal answer next_common next_group next respond state_after answers kept_from
state_of r cs = state_after r cs

-- an opening at which no product gets new limits
abbrev pub opened_unrenewed : Answer
opened_unrenewed = accepted (opened (replicate 8 false))

-- The same in one run through the list, so that a vector computes each call once.
record Run : Type 0 where
  answers : List Answer
  state : Record

abbrev after_one : Response → Run → Run
after_one t u = record { answers = t.answer ∷ u.answers; state = u.state }

abbrev run_from : Response → (Record → Run) → Run
run_from t rest = after_one t (rest t.state)

abbrev run_of : List Call → Record → Run
run_of [] r = record { answers = []; state = r }
run_of (c ∷ cs) r = run_from (respond r c) (run_of cs)

run_is : (cs : List Call) (r : Record) → run_of cs r ≡ record { answers = answers r cs; state = state_after r cs }
unfolding answers state_after
run_is [] r = refl
run_is (c ∷ cs) r = ap (after_one (respond r c)) (run_is cs (respond r c).state)

abbrev outcome_of : ℕ → Run → Outcome
outcome_of g u = outcome_by (events_of g u.answers) (group_at u.state g)

pub in_one_run : (r : Record) (g : ℕ) (cs : List Call) (o : Outcome) → outcome_of g (run_of cs r) ≡ o → outcome r g cs ≡ o
unfolding outcome
in_one_run r g cs o e = sym (ap (outcome_of g) (run_is cs r)) ∙ e

-- What an opening shows of the eight products.
pub record Renewal : Type 0 where
  pub answer : Answer
  pub limits : List Limits
  pub windows : List (List ℕ)

abbrev products_of : Record → List Product
products_of r = concat_map (λ g. g.products) r.groups

abbrev pub windows_of : Record → List (List ℕ)
windows_of r = map (λ (q : Product). q.window) (products_of r)

abbrev renewal_by : Response → Renewal
renewal_by t =
    record {
      answer = t.answer;
      limits = map limits_of (products_of t.state);
      windows = windows_of t.state;
    }

-- all eight by windows of the settlements above, which are then empty
abbrev pub all_renewed : Renewal
all_renewed =
    record {
      answer = accepted (opened (replicate 8 true));
      limits =
          limits 440 680
          ∷ limits 560 840
          ∷ limits 350 550
          ∷ limits 300 450
          ∷ limits 280 440
          ∷ limits 280 440
          ∷ limits 160 240
          ∷ limits 210 320
          ∷ [];
      windows = replicate 8 [];
    }

abbrev pub renewal : Record → List Call → Day → Renewal
renewal r before d = renewal_by (respond (state_of r before) (opens d))
