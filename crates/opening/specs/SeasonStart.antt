-- What an opening's answers tell of levels and marks, whatever the book. proofs/SeasonStarts.antt has the proofs.
use Rattle.std.specs.Prelude.{ℕ, ◌<◌, ◌≡◌, Bool, true, false, List, Result}
use Rattle.grain.specs.declared.refusals.Refusal.{Refusal}
use Rattle.record.specs.declared.Day.{Day}
use Rattle.record.specs.State.{group_count, initial, group_at}
use Rattle.record.specs.History.{products_of}
use Rattle.book.specs.declared.Book.{Book}
use Rattle.book.specs.Book.{view}
use Rattle.opening.specs.Opens.{renewed_in, is_one_renewed, Opens}

pub record SeasonStart : Type 0 where
  -- a product that got new limits brings its whole group to the initial level, with no mark
  pub narrow :
      (b after : Book) (d : Day) (r : Result (List Bool) Refusal) → Opens b d r after → (g : ℕ) → g < group_count → is_one_renewed (renewed_in r) (products_of g) ≡ true
      → ((group_at (view after) g).level ≡ initial) × ((group_at (view after) g).mark ≡ false)
  -- and no other group: where none of its products got any, and where the opening is refused, a group keeps both
  pub kept :
      (b after : Book) (d : Day) (r : Result (List Bool) Refusal) → Opens b d r after → (g : ℕ) → g < group_count → is_one_renewed (renewed_in r) (products_of g) ≡ false
      → ((group_at (view after) g).level ≡ (group_at (view b) g).level) × ((group_at (view after) g).mark ≡ (group_at (view b) g).mark)
