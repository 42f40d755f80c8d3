-- What a book holds of a product after its day shows the Record's end of the product.
use Prim.Native.Nat.{ℕ, ◌≤◌}
use mathlib.Core.Path.{◌≡◌, refl}
use mathlib.Core.Bool.{Bool, true, false, cond}
use Rattle.std.specs.Prelude.{None}
use Rattle.grain.specs.Amounts.{expanded_of}
use Rattle.grain.specs.declared.amounts.Limit.{Limit}
use Rattle.record.specs.declared.Day.{Day}
use Rattle.record.specs.declared.Event.{Event}
use Rattle.record.specs.State.{max_contracts}
use Rattle.record.specs.End.{is_raised, end_product}
use Rattle.record.specs.Window.{collected_month, window_by, window_after}
use Rattle.sheets.specs.Sheets.{entries_of, sheet_in}
use Rattle.book.specs.declared.Book.{Book}
use Rattle.book.specs.Book.{limit_in, window_of, today_in, last_in, view_product}
use Rattle.ending.specs.Ends.{limit_after}
use Rattle.ending.proofs.Enough.{sheet_entries}

initial_after : (raised : Bool) (p : ℕ) (l : Limit) → (limit_after raised p l).initial ≡ cond raised l.expanded l.initial
initial_after true p l = refl
initial_after false p l = refl

expanded_after : (raised : Bool) (p : ℕ) (l : Limit)
    → (limit_after raised p l).expanded ≡ cond raised (expanded_of p l.expanded) l.expanded
expanded_after true p l = refl
expanded_after false p l = refl

pub shows_end : (d : Day) (e : Event) (p : ℕ) (b z : Book) → (today_in b p).count ≤ max_contracts
    → limit_in z p ≡ limit_after (is_raised e) p (limit_in b p)
    → window_of z p ≡ window_by (window_of b p) (entries_of (today_in b p)) (collected_month d p)
    → sheet_in (today_in z p) ≡ None → last_in z p ≡ today_in b p
    → view_product z p ≡ end_product d e (view_product b p)
unfolding view_product end_product window_after
shows_end d e p b z fits limit window today last =
    rw (limit, initial_after (is_raised e) p (limit_in b p), expanded_after (is_raised e) p (limit_in b p), window, sheet_entries (today_in b p) fits, today, last)
