-- The terms that the code passes on as the Record's, and what the call that gives them promises.
use Rattle.std.specs.Prelude.{ℕ, ◌≡◌, Result, Ok}
use Rattle.grain.specs.declared.refusals.Refusal.{Refusal}
use Rattle.record.specs.Check.{Terms}
use Rattle.record.specs.Record.{terms_in, terms_refusal}
use Rattle.sheets.specs.Sheets.{entries_of}
use Rattle.book.specs.declared.Book.{Book}
use Rattle.book.specs.Book.{view}
use Rattle.book.specs.Calls.{refusal_in}
use Rattle.checking.specs.declared.terms.Terms as declared

abbrev pub view_terms : declared.Terms → Terms
view_terms t = record { tick = t.tick; limit = t.limit; date = t.date; last = entries_of t.last.now }

-- 1, 2 or 5, or the terms
pub record Offers (b : Book) (p size : ℕ) (r : Result declared.Terms Refusal) : Type 0 where
  pub refusal : refusal_in r ≡ terms_refusal (view b) p size
  pub terms : (t : declared.Terms) → r ≡ Ok t → view_terms t ≡ terms_in (view b) p size
