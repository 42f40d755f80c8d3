-- What a book's terms are, of a product and size that are offered.
use Prim.Native.Nat.{ℕ, ◌<◌}
use mathlib.Core.Path.{◌≡◌, refl, sym}
use mathlib.Core.Bool.{Bool, true, false, not, cond}
use mathlib.Core.List.{List, [], ◌∷◌}
use Rattle.std.specs.Prelude.{Some, None, Ok, Err}
use lib.Dec.{ltb}
use borrow.Author.Tests.{ltb-true, ltb-false}
use Rattle.grain.specs.Products.{tick_of, is_offered}
use Rattle.grain.specs.Refusals.{no_such_product, number_of}
use Rattle.grain.specs.declared.refusals.Refusal.{Refusal}
use Rattle.grain.specs.declared.spot.TradeDate.{TradeDate}
use Rattle.grain.proofs.Columns.{tick_beyond}
use Rattle.record.specs.declared.Day.{Day}
use Rattle.record.specs.Refusals.{Test, when}
use Rattle.record.specs.State.{trade_date, group_of, group_at, todays_limit}
use Rattle.record.specs.Check.{Terms, terms_tests}
use Rattle.record.specs.Sound.{is_sound}
use Rattle.record.specs.Record.{terms_in, terms_refusal}
use Rattle.sheets.specs.Sheets.{entries_of}
use Rattle.book.specs.declared.Book.{Book}
use Rattle.book.specs.Book.{opened_in, last_in, view}
use Rattle.book.specs.Phase.{phase_refusal}
use Rattle.book.proofs.Phases.{refused_early, decided_late}
use Rattle.book.proofs.LastSheets.{last_is}
use Rattle.book.proofs.SoundFacts.{day_in}
use Rattle.checking.specs.declared.terms.Terms.{Terms as Declared}
use Rattle.checking.specs.Terms.{view_terms, Offers}

-- a size that is offered is a product's
pub offered_product : (p size : ℕ) → (tick_of p size ≡ 0 → ⊥) → p < 8
offered_product p size n = go (ltb p 8) refl
  where
    go : (b : Bool) → ltb p 8 ≡ b → p < 8
    go true e = ltb-true p 8 e
    go false e = absurd (n (tick_beyond p size (ltb-false p 8 e)))

-- the tests of a product and size after the first two
abbrev offer_tests : ℕ → ℕ → List Test
offer_tests p size = when (not (is_offered p size)) no_such_product ∷ []

module _ (b : Book) (p size : ℕ) where
  pub refuses : (e : Refusal) → terms_refusal (view b) p size ≡ Some (number_of e) → Offers b p size (Err e)
  refuses e is = record { refusal = sym is; terms = λ t ok. cc }

  pub grants : (t : Declared) → terms_refusal (view b) p size ≡ None → view_terms t ≡ terms_in (view b) p size → Offers b p size (Ok t)
  grants t e is = record { refusal = sym e; terms = λ u ok. let same : t ≡ u = cc in rw (← same) is }

  module _ (sound : is_sound (view b) ≡ true) where
    pub terms_are : (tick limit : ℕ) (date : TradeDate) → p < 8 → tick ≡ tick_of p size → limit ≡ todays_limit (group_at (view b) (group_of p)) p
        → (d : Day) → opened_in b ≡ Some d → date ≡ trade_date d
        → ◌≡◌ {A = Terms} (record { tick = tick; limit = limit; date = date; last = entries_of (last_in b p) }) (terms_in (view b) p size)
    terms_are tick limit date h tick_is limit_is d opened date_is = rw (tick_is, limit_is, date_is, day_in b d opened, last_is b sound p h)

  -- refused by the first two tests
  pub phase_refuses : (n : ℕ) → phase_refusal true (view b) ≡ Some n → terms_refusal (view b) p size ≡ Some n
  unfolding terms_refusal terms_tests
  phase_refuses n e = refused_early (view b) _ n (offer_tests p size) e

  -- past them, whether the size is offered decides
  pub offer_decides : phase_refusal true (view b) ≡ None → terms_refusal (view b) p size ≡ cond (not (is_offered p size)) (Some no_such_product) None
  unfolding terms_refusal terms_tests
  offer_decides e = decided_late (view b) _ (offer_tests p size) e
