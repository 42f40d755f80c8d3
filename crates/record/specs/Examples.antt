-- Books, days and lists of calls for the marked numbers, and what is shown of them.
use Rattle.std.specs.Prelude.{ℕ, Bool, List, [], ◌∷◌, ◌++◌, map, get_or}
use Rattle.grain.specs.Dates.{contract_month}
use Rattle.grain.specs.declared.check.Span.{Span}
use Rattle.record.specs.State.{Day, Level, Product, Group, Record, group_at}
use Rattle.record.specs.Founding.{Start, founded}
use Rattle.record.specs.End.{Event, Quiet, Lead}
use Rattle.record.specs.Record.{opening, sheet, end, check, Call, change, question, ended, Answer, accepted, state_after, answers}

-- ---- products, groups, contract months and days by name
abbrev pub corn : ℕ
corn = 0

abbrev pub soybeans : ℕ
soybeans = 1

abbrev pub oil : ℕ
oil = 2

abbrev pub meal : ℕ
meal = 3

abbrev pub chicago_wheat : ℕ
chicago_wheat = 4

abbrev pub kc_wheat : ℕ
kc_wheat = 5

abbrev pub oats : ℕ
oats = 6

abbrev pub rice : ℕ
rice = 7

-- the group of Corn
abbrev pub corn_group : ℕ
corn_group = 0

-- the Soybean Complex
abbrev pub complex : ℕ
complex = 1

abbrev pub jul24 : ℕ
jul24 = contract_month 2024 7

abbrev pub sep24 : ℕ
sep24 = contract_month 2024 9

abbrev pub dec24 : ℕ
dec24 = contract_month 2024 12

abbrev pub mar25 : ℕ
mar25 = contract_month 2025 3

abbrev pub may25 : ℕ
may25 = contract_month 2025 5

abbrev pub jul25 : ℕ
jul25 = contract_month 2025 7

-- year, month, day, left
abbrev pub on : ℕ → ℕ → ℕ → ℕ → Day
on y m d l = record { year = y; month = m; day = d; left = l }

-- on these days July 2024 is not spot
abbrev pub june3 : Day
june3 = on 2024 6 3 18

abbrev pub june4 : Day
june4 = on 2024 6 4 17

abbrev pub june5 : Day
june5 = on 2024 6 5 16

abbrev pub june6 : Day
june6 = on 2024 6 6 15

abbrev pub june26 : Day
june26 = on 2024 6 26 2

-- on this day July 2024 is spot
abbrev pub june27 : Day
june27 = on 2024 6 27 1

-- ---- books
-- Corn at 200, the other products at their floors
abbrev pub corn_at200 : Start
corn_at200 = record { edition = 2023; limits = 200 ∷ 400 ∷ 200 ∷ 200 ∷ 240 ∷ 240 ∷ 160 ∷ 100 ∷ [] }

abbrev pub a_book : Record
a_book = founded corn_at200

-- a settlement of each product
abbrev pub usual_settlement : ℕ → ℕ
usual_settlement p = get_or (6000 ∷ 8000 ∷ 5000 ∷ 4000 ∷ 4000 ∷ 4000 ∷ 1920 ∷ 3000 ∷ []) p 0

-- ---- calls
abbrev pub opens : Day → Call
opens d = change (opening d)

-- product, months, settlements
abbrev pub files : ℕ → List ℕ → List ℕ → Call
files p ms ss = change (sheet p ms ss)

abbrev pub ends : Call
ends = change end

-- product, size, month, price
abbrev pub checks : ℕ → ℕ → ℕ → ℕ → Call
checks p size month price = question (check p size month price)

-- ---- days as lists of calls
-- a sheet of one contract
abbrev pub one_contract : ℕ → ℕ → ℕ → Call
one_contract p month settlement = files p (month ∷ []) (settlement ∷ [])

-- July 2025 at the product's settlement above
abbrev pub unmoved : ℕ → Call
unmoved p = one_contract p jul25 (usual_settlement p)

-- a day that is opened, gets the given sheets and unmoved ones of the given products, and is ended
abbrev pub full_day : Day → List Call → List ℕ → List Call
full_day d sheets others = opens d ∷ sheets ++ map unmoved others ++ ends ∷ []

-- six Corn contracts
abbrev pub corn_months : List ℕ
corn_months = jul24 ∷ sep24 ∷ dec24 ∷ mar25 ∷ may25 ∷ jul25 ∷ []

abbrev pub not_corn : List ℕ
not_corn = soybeans ∷ oil ∷ meal ∷ chicago_wheat ∷ kc_wheat ∷ oats ∷ rice ∷ []

-- a day with these settlements of the six; no other product moves
abbrev pub corn_day : Day → List ℕ → List Call
corn_day d settlements = full_day d (files corn corn_months settlements ∷ []) not_corn

-- nothing moves
abbrev pub flat : List ℕ
flat = 4000 ∷ 4000 ∷ 4000 ∷ 4000 ∷ 4000 ∷ 4000 ∷ []

abbrev pub not_complex : List ℕ
not_complex = corn ∷ chicago_wheat ∷ kc_wheat ∷ oats ∷ rice ∷ []

-- a day with these July 2025 settlements of Soybeans, Oil and Meal; no other product moves
abbrev pub complex_day : Day → ℕ → ℕ → ℕ → List Call
complex_day d s o m =
    full_day d (one_contract soybeans jul25 s ∷ one_contract oil jul25 o ∷ one_contract meal jul25 m ∷ []) not_complex

-- ---- what is computed
-- the answers to further calls after a list of calls
abbrev pub answers_after : Record → List Call → List Call → List Answer
answers_after r before cs = answers (state_after r before) cs

-- the lowest and the highest price allowed
abbrev pub span : ℕ → ℕ → Span
span low high = record { lowest = low; highest = high }

-- I and E
pub record Limits : Type 0 where
  pub initial_limit : ℕ
  pub expanded_limit : ℕ

abbrev pub limits : ℕ → ℕ → Limits
limits i e = record { initial_limit = i; expanded_limit = e }

abbrev pub limits_of : Product → Limits
limits_of q = limits q.initial_limit q.expanded_limit

abbrev pub lead : ℕ → ℕ → Lead
lead p m = record { month = m; product = p }

abbrev pub events_of : ℕ → List Answer → List Event
events_of g [] = []
events_of g (accepted (ended events) ∷ l) = get_or events g Quiet ∷ events_of g l
events_of g (a ∷ l) = events_of g l

-- What a list of calls makes of a group.
pub record Outcome : Type 0 where
  -- the group's event at each end
  pub events : List Event
  pub level : Level
  pub mark : Bool
  -- of each of its products
  pub limits : List Limits

abbrev pub outcome_by : List Event → Group → Outcome
outcome_by events g =
    record { events = events; level = g.level; mark = g.mark; limits = map limits_of g.products }

unfoldable pub outcome : Record → ℕ → List Call → Outcome
outcome r g cs = outcome_by (events_of g (answers r cs)) (group_at (state_after r cs) g)
