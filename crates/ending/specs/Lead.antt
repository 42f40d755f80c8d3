-- The leading contract of a group's products, for the condition of an event.
use Rattle.std.specs.Prelude.{ℕ, ◌<◌, ◌≤◌, ◌≡◌, Bool, true, cond, List, [], map, eqb, Option}
use Rattle.grain.specs.Lists.{is_ascending}
use Rattle.grain.specs.Products.{product_count}
use Rattle.grain.specs.Spot.{is_spot}
use Rattle.grain.specs.declared.spot.TradeDate.{TradeDate}
use Rattle.record.specs.declared.Lead.{Lead}
use Rattle.record.specs.Choices.{keep, concat_map}
use Rattle.record.specs.State.{max_contracts}
use Rattle.record.specs.Move.{Move, product_moves, is_trigger, is_at_least_initial, is_at_expanded}
use Rattle.record.specs.Edition.{of2014}
use Rattle.record.specs.End.{leading}
use Rattle.sheets.specs.Sheets.{contracts_of, months_of}
use Rattle.book.specs.declared.Book.{Book}
use Rattle.book.specs.Book.{today_in, last_in, view_product}
use Rattle.ending.specs.declared.lead.condition.Condition.{Condition}
use Rattle.ending.specs.declared.lead.condition.Condition.TheVariants.{OneAtInitial, TwoAtInitial, AtLeastInitial, AtExpanded}

abbrev pub meets : Condition → Move → Bool
meets OneAtInitial m = is_trigger m
meets TwoAtInitial m = is_trigger m
meets AtLeastInitial m = is_at_least_initial m
meets AtExpanded m = is_at_expanded m

-- those of a product's moves that meet the condition are enough
abbrev pub suffice : Condition → List Move → Bool
suffice OneAtInitial ms = true
suffice TwoAtInitial ms = of2014.are_enough ms
suffice AtLeastInitial ms = true
suffice AtExpanded ms = true

-- of a product's moves, those that can lead the event
abbrev pub candidates : Condition → List Move → List Move
candidates condition ms = let l = keep (meets condition) ms in cond (suffice condition l) l []

-- the leading contract from the moves of each product
abbrev pub lead_for : Condition → List (List Move) → Option Lead
lead_for condition mss = leading (concat_map (candidates condition) mss)

-- the moves of each of some products of a book
unfoldable pub moves_of : Book → TradeDate → List ℕ → List (List Move)
moves_of b date ps = map (product_moves (is_spot date)) (map (view_product b) ps)

-- what an edition asks of a move to trigger a group
abbrev pub trigger_of : ℕ → Condition
trigger_of edition = cond (eqb edition 2014) TwoAtInitial OneAtInitial

-- and to hold one
abbrev pub holding_of : ℕ → Condition
holding_of edition = cond (eqb edition 2014) AtExpanded AtLeastInitial

-- what the search asks of a book, which every sound book has
pub record Readable (b : Book) : Type 0 where
  pub today : (p : ℕ) → p < product_count → (today_in b p).count ≤ max_contracts
  pub last : (p : ℕ) → p < product_count → (last_in b p).count ≤ max_contracts
  pub ascending : (p : ℕ) → p < product_count → is_ascending (months_of (contracts_of (today_in b p))) ≡ true
