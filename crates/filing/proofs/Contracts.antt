-- What the tests over the contracts look at, by the book: the open day, its spot months and the last ended sheet.
use Prim.Native.Nat.{ℕ, ◌<◌}
use mathlib.Core.Path.{◌≡◌, refl, ap}
use mathlib.Core.Bool.{Bool, true, not, ◌&&◌}
use lib.Dec.{leb}
use mathlib.Core.List.{List, [], ◌∷◌}
use Rattle.grain.specs.Lists.{◌and◌, every, is_ascending}
use Rattle.grain.specs.Products.{is_traded}
use Rattle.grain.specs.Prices.{is_settlement}
use Rattle.grain.specs.Spot.{is_spot}
use Rattle.grain.specs.Refusals.{bad_price}
use Rattle.record.specs.declared.Day.{Day}
use Rattle.record.specs.declared.Contract.{Contract}
use Rattle.std.specs.Prelude.{Option}
use Rattle.record.specs.Refusals.{when, first, bad_month, contract_absent, beyond_limit}
use Rattle.record.specs.State.{day_of, month_of, trade_date, is_spot_on, group_of, group_at, todays_limit}
use Rattle.record.specs.Sheet.{has_bad_month, has_bad_settlement, lacks_contract, is_beyond}
use Rattle.record.specs.Sound.{is_sound}
use Rattle.sheets.specs.Sheets.{entries_of, months_of, settlements_of}
use Rattle.book.specs.declared.Book.{Book}
use Rattle.book.specs.Book.{last_in, view}
use Rattle.book.proofs.LastSheets.{last_is}
use Rattle.filing.specs.Files.{contract_tests}

-- the tests of the months, one after another
pub bad_month_by : (month p : ℕ) (ms : List ℕ) → has_bad_month month p ms ≡ not (is_ascending ms && every (is_traded p) ms && every (leb month) ms)
unfolding has_bad_month ◌and◌
bad_month_by month p ms = refl

-- the refusal, by what the four tests look at
abbrev pub by : Bool → Bool → Bool → Bool → Option ℕ
by month settlement absent beyond =
    first (when month bad_month ∷ when settlement bad_price ∷ when absent contract_absent ∷ when beyond beyond_limit ∷ [])

-- the refusal, by the day and the last ended sheet
abbrev by_day : Book → ℕ → List Contract → Day → List Contract → Option ℕ
by_day b p s d last =
    by (has_bad_month (month_of d) p (months_of s)) (has_bad_settlement p (settlements_of s)) (lacks_contract (is_spot_on d) last s)
    (is_beyond (is_spot_on d) (todays_limit (group_at (view b) (group_of p)) p) last s)

module _ (b : Book) (p : ℕ) (s : List Contract) where
  abbrev limit : ℕ
  limit = todays_limit (group_at (view b) (group_of p)) p

  abbrev today : Day
  today = day_of (view b).common

  pub late_is : p < 8 → is_sound (view b) ≡ true
      → first (contract_tests (view b) p s)
      ≡ by (has_bad_month (trade_date today).month p (months_of s)) (not (every (is_settlement p) (settlements_of s)))
      (lacks_contract (is_spot (trade_date today)) (entries_of (last_in b p)) s) (is_beyond (is_spot (trade_date today)) limit (entries_of (last_in b p)) s)
  unfolding has_bad_settlement
  late_is l sound = ap (by_day b p s today) (last_is b sound p l)
