-- What is shown of the Record, nearly all of it for every list of calls from a founded one. proofs/Proved.antt has the proofs.
use Rattle.std.specs.Prelude.{ℕ, ◌<◌, ◌≤◌, ◌≡◌, Bool, true, false, not, ◌&&◌, cond, List, [], ◌∷◌, ◌++◌, leb, eqb, Some, None}
use Rattle.std.specs.List.{list_any}
use Rattle.grain.specs.Lists.{every, is_in, distance}
use Rattle.grain.specs.Check.{span_in, is_within}
use Rattle.grain.specs.declared.check.Span.{Span}
use Rattle.grain.specs.declared.check.Verdict.{Verdict}
use Rattle.grain.specs.declared.check.Verdict.TheVariants.{Free, Within}
use Rattle.record.specs.Refusals.{unsound}
use Rattle.record.specs.State.{Level, Record, day_of, trade_date, is_spot_on, group_of, group_at, product_in, limit_at, todays_limit, sheet_or}
use Rattle.record.specs.Founding.{Start, founding_refusal, founded}
use Rattle.record.specs.End.{is_raised}
use Rattle.record.specs.Check.{listed}
use Rattle.record.specs.Sound.{is_sound}
use Rattle.record.specs.Record.{check, Call, ended, checked, Answer, refused, accepted, respond, ask, state_after, answers}
use Rattle.record.specs.History.{Entry, a_day, a_conversion, kept, products_of, SameFor}
use Rattle.record.specs.Replay.{replay}

-- the Record after a list of calls
abbrev pub after : Start → List Call → Record
after s cs = state_after (founded s) cs

abbrev pub history_of : Start → List Call → List Entry
history_of s cs = kept cs (answers (founded s) cs)

-- the answer that a further price check gets
abbrev pub check_after : Start → List Call → ℕ → ℕ → ℕ → ℕ → Answer
check_after s cs p size month price = ask (after s cs) (check p size month price)

abbrev pub is_refusal : ℕ → Answer → Bool
is_refusal n (refused m) = eqb m n
is_refusal n (accepted a) = false

-- an end raised a group
abbrev pub has_raised : Answer → Bool
has_raised (accepted (ended events)) = list_any is_raised events
has_raised a = false

abbrev pub is_conversion : Entry → Bool
is_conversion (a_day k) = false
is_conversion a_conversion = true

-- ---- one level for a group

-- a product of the Record stands on a level, and the limit that a check and refusal 10 use is that level's, by its own amounts.
-- `limit` holds of every Record by the definition of todays_limit: that a book's amounts are these is `compared` of history/specs/Whole.antt
pub record Stands (r : Record) (l : Level) (p : ℕ) : Type 0 where
  pub level : (group_at r (group_of p)).level ≡ l
  pub limit :
      todays_limit (group_at r (group_of p)) p
      ≡ limit_at l (product_in (group_at r (group_of p)) p).initial_limit (product_in (group_at r (group_of p)) p).expanded_limit

-- products that all stand on one level
pub record OneLevel (r : Record) (ps : List ℕ) : Type 0 where
  pub level : Level
  pub stands : (p : ℕ) → is_in p ps ≡ true → Stands r level p

-- The products of each group stand on one level, those of the Soybean Complex and the two wheats by name.
-- It holds of every Record by its shape, as a level belongs to a group: what no shape decides is `coupled` below, of the answers that checks
-- get, and `compared` of history/specs/Whole.antt, of the levels that a book holds
pub record Together (r : Record) : Type 0 where
  pub groups : (g : ℕ) → OneLevel r (products_of g)
  -- Soybeans, Soybean Oil and Soybean Meal
  pub complex : OneLevel r (1 ∷ 2 ∷ 3 ∷ [])
  -- Chicago Wheat and KC Wheat
  pub wheats : OneLevel r (4 ∷ 5 ∷ [])

-- a price of a listed, non-spot contract beyond its product's I and not beyond its E
pub record BetweenLimits (r : Record) (p month price : ℕ) : Type 0 where
  pub settlement : ℕ
  pub is_listed : listed (trade_date (day_of r.common)) (sheet_or (product_in (group_at r (group_of p)) p).last) month ≡ Some settlement
  pub not_spot : is_spot_on (day_of r.common) month ≡ false
  pub beyond_initial : (product_in (group_at r (group_of p)) p).initial_limit < distance price settlement
  pub not_beyond_expanded : distance price settlement ≤ (product_in (group_at r (group_of p)) p).expanded_limit

-- ---- spans

-- the prices that a check of the contract finds within are those from the lowest to the highest of the span, of the prices that pass 8
pub record Resent (r : Record) (p size month : ℕ) (s : Span) : Type 0 where
  pub at_lowest : ask r (check p size month s.lowest) ≡ accepted (checked (Within s))
  pub at_highest : ask r (check p size month s.highest) ≡ accepted (checked (Within s))
  pub elsewhere :
      (price : ℕ) (v : Verdict) → ask r (check p size month price) ≡ accepted (checked v)
      → is_within v ≡ (leb s.lowest price && leb price s.highest)

-- ---- the theorems
pub record Theorems : Type 0 where
  -- the Record stays sound, so that no call of a list answers 1
  pub stays_sound : (s : Start) → founding_refusal s ≡ None → (cs : List Call) → is_sound (after s cs) ≡ true
  pub never_unsound :
      (s : Start) → founding_refusal s ≡ None → (cs : List Call)
      → every (λ a. not (is_refusal unsound a)) (answers (founded s) cs) ≡ true
  -- 0 is no refusal's number, whatever the Record
  pub never_zero : (r : Record) (c : Call) → not (is_refusal 0 (respond r c).answer) ≡ true
  -- the state after a list is the replay of its history
  pub replayed : (s : Start) (cs : List Call) → after s cs ≡ replay (history_of s cs) (founded s)
  -- a book is of the edition that it was founded under until a conversion is accepted, and then of 2023
  pub edition_after :
      (s : Start) (cs : List Call) → (after s cs).common.edition ≡ cond (list_any is_conversion (history_of s cs)) 2023 s.edition
  -- while it is of 2014 no group is raised
  pub never_raised :
      (s : Start) → founding_refusal s ≡ None → (cs : List Call) → (after s cs).common.edition ≡ 2014
      → every (λ a. not (has_raised a)) (answers (founded s) cs) ≡ true
  -- the products of a group stand on one level
  pub together : (s : Start) (cs : List Call) → Together (after s cs)
  -- said of answers: of two products of one group, two prices, each between its product's limits, are both within or both not
  pub coupled :
      (s : Start) (cs : List Call) (p q i j m n x y : ℕ) (v w : Verdict) → group_of p ≡ group_of q
      → BetweenLimits (after s cs) p m x → BetweenLimits (after s cs) q n y
      → check_after s cs p i m x ≡ accepted (checked v) → check_after s cs q j n y ≡ accepted (checked w) → is_within v ≡ is_within w
  -- an order that is sent again at an end of the span that its check showed is within, and so are those between, and no others
  pub resent :
      (s : Start) (cs : List Call) (p size month price : ℕ) (v : Verdict) (allowed : Span)
      → check_after s cs p size month price ≡ accepted (checked v) → span_in v ≡ Some allowed → Resent (after s cs) p size month allowed
  -- a contract month that a check found free is free in every later check that is answered, of any product and price: the left falls
  -- within a month, so that a month once spot stays so
  pub stays_free :
      (s : Start) (cs ds : List Call) (p q i j month x y : ℕ) (v : Verdict)
      → check_after s cs p i month x ≡ accepted (checked Free) → check_after s (cs ++ ds) q j month y ≡ accepted (checked v) → v ≡ Free
  -- two lists with the same openings, ends and conversions accepted and the same sheets of one group on each day: the same day is open after
  -- both, or none, and the edition is the same
  pub same_day :
      (s : Start) (g : ℕ) (cs ds : List Call) → SameFor g (history_of s cs) (history_of s ds)
      → (after s cs).common ≡ (after s ds).common
  -- that group has the same level, mark, limits, windows and sheets
  pub same_group :
      (s : Start) (g : ℕ) (cs ds : List Call) → SameFor g (history_of s cs) (history_of s ds)
      → group_at (after s cs) g ≡ group_at (after s ds) g
  -- and any price check on it gets the same answer or refusal number
  pub same_checks :
      (s : Start) → founding_refusal s ≡ None → (g : ℕ) (cs ds : List Call)
      → SameFor g (history_of s cs) (history_of s ds) → (p size month price : ℕ) → group_of p ≡ g
      → check_after s cs p size month price ≡ check_after s ds p size month price
