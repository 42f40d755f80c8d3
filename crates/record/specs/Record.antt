-- The Record: the calls, what refuses them, what they answer, and what they change.
use Rattle.std.specs.Prelude.{ℕ, Bool, true, false, not, List, [], ◌∷◌, ◌++◌, map, Option, Some, None, is_some}
use Rattle.std.specs.List.{list_any}
use Rattle.grain.specs.Products.{is_product}
use Rattle.grain.specs.Refusals.{no_such_product}
use Rattle.grain.specs.declared.check.Verdict.{Verdict}
use Rattle.record.specs.Choices.{concat_map}
use Rattle.record.specs.Refusals.{Test, when, first, unsound, wrong_phase, sheet_outstanding}
use Rattle.record.specs.State.{Day, Group, Common, Record, with_edition, with_opened, with_is_open, group_of, group_at}
use Rattle.record.specs.Opening.{opening_tests, is_renewed, open_group}
use Rattle.record.specs.Sheet.{contracts, sheet_tests, file_group}
use Rattle.record.specs.End.{Event, group_event, end_group}
use Rattle.record.specs.Check.{Terms, terms_tests, terms_of, order_tests, judged}
use Rattle.record.specs.Sound.{is_sound}
use Rattle.record.specs.Conversion.{conversion_tests}

-- What changes the book.
pub data Change : Type 0 where
  opening : Day → Change
  -- product, months, settlements
  sheet : ℕ → List ℕ → List ℕ → Change
  end : Change
  convert : Change

-- What only asks.
pub data Question : Type 0 where
  -- product, size, month, price
  check : ℕ → ℕ → ℕ → ℕ → Question

pub data Call : Type 0 where
  change : Change → Call
  question : Question → Call

-- What an accepted call answers.
pub data Accepted : Type 0 where
  -- for each product, whether it got new limits
  opened : List Bool → Accepted
  filed : Accepted
  -- for each group, its event
  ended : List Event → Accepted
  converted : Accepted
  checked : Verdict → Accepted

pub data Answer : Type 0 where
  refused : ℕ → Answer
  accepted : Accepted → Answer

-- the terms that a product and size have
abbrev pub terms_in : Record → ℕ → ℕ → Terms
terms_in r p size = terms_of r.common (group_at r (group_of p)) p size

unfoldable pub is_outstanding : Group → Bool
is_outstanding g = list_any (λ q. not (is_some q.today)) g.products

-- the tests of a call after 1, in its order
unfoldable pub tests : Record → Call → List Test
tests r (change (opening d)) = opening_tests r.common d
tests r (change (sheet p ms ss)) =
    when (not r.common.is_open) wrong_phase
    ∷ when (not (is_product p)) no_such_product
    ∷ sheet_tests r.common (group_at r (group_of p)) p ms ss
tests r (change end) =
    when (not r.common.is_open) wrong_phase ∷ when (list_any is_outstanding r.groups) sheet_outstanding ∷ []
tests r (change convert) = conversion_tests r
tests r (question (check p size month price)) = terms_tests r.common p size ++ order_tests (terms_in r p size) month price

-- the first number that refuses, 1 before the tests; judged by the Record's own contents
abbrev pub refusal_by : Record → List Test → Option ℕ
refusal_by r ts = first (when (not (is_sound r)) unsound ∷ ts)

-- the number with which a call is refused
unfoldable pub refusal : Record → Call → Option ℕ
refusal r c = refusal_by r (tests r c)

-- the number with which a product and size are refused their terms
unfoldable pub terms_refusal : Record → ℕ → ℕ → Option ℕ
terms_refusal r p size = refusal_by r (terms_tests r.common p size)

-- the answer of an accepted call
unfoldable pub answer : Record → Call → Accepted
answer r (change (opening d)) = opened (concat_map (λ g. map (is_renewed r.common d) g.products) r.groups)
answer r (change (sheet p ms ss)) = filed
answer r (change end) = ended (map (group_event r.common) r.groups)
answer r (change convert) = converted
answer r (question (check p size month price)) = checked (judged (terms_in r p size) month price)

-- what an accepted change leaves, of what is common and of each group
unfoldable pub next_common : Common → Change → Common
next_common c (opening d) = with_opened (Some d) (with_is_open true c)
next_common c (sheet p ms ss) = c
next_common c end = with_is_open false c
next_common c convert = with_edition 2023 c

unfoldable pub next_group : Common → Change → Group → Group
next_group c (opening d) g = open_group c d g
next_group c (sheet p ms ss) g = file_group p (contracts ms ss) g
next_group c end g = end_group c g
next_group c convert g = g

unfoldable pub next : Record → Change → Record
next r c = record { common = next_common r.common c; groups = map (next_group r.common c) r.groups }

-- a refused change changes nothing
abbrev pub next_by : Option ℕ → Record → Change → Record
next_by (Some n) r c = r
next_by None r c = next r c

-- what a call leaves; a question changes nothing
abbrev pub state_by : Record → Call → Record
state_by r (change c) = next_by (refusal r (change c)) r c
state_by r (question q) = r

-- a refused call answers its number
abbrev pub answer_by : Option ℕ → Accepted → Answer
answer_by (Some n) a = refused n
answer_by None a = accepted a

-- what a month and price get on terms: 14, 8 or the answer
abbrev pub order_answer : Terms → ℕ → ℕ → Answer
order_answer t month price = answer_by (first (order_tests t month price)) (checked (judged t month price))

pub record Response : Type 0 where
  pub state : Record
  pub answer : Answer

unfoldable pub respond : Record → Call → Response
respond r c = record { state = state_by r c; answer = answer_by (refusal r c) (answer r c) }

-- the answer to a question
abbrev pub ask : Record → Question → Answer
ask r q = (respond r (question q)).answer

-- the state and the answers of a list of calls
unfoldable pub state_after : Record → List Call → Record
state_after r [] = r
state_after r (c ∷ cs) = state_after (respond r c).state cs

unfoldable pub answers : Record → List Call → List Answer
answers r [] = []
answers r (c ∷ cs) = (respond r c).answer ∷ answers (respond r c).state cs
