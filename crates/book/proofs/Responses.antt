-- A refused and an accepted change: what gives all that it promises.
use Prim.Native.Nat.{ℕ}
use mathlib.Core.Path.{◌≡◌, refl, sym, ap}
use Rattle.std.specs.Prelude.{Some, None, Result, Err}
use Rattle.grain.specs.Refusals.{number_of}
use Rattle.grain.specs.declared.refusals.Refusal.{Refusal}
use Rattle.record.specs.Record.{Change, change, Accepted, refused, accepted, refusal, answer, next, respond}
use Rattle.book.specs.declared.Book.{Book}
use Rattle.book.specs.Book.{view}
use Rattle.book.specs.Calls.{Responds, answer_as}

pub refused_responds : (b : Book) (c : Change) (n : ℕ) → refusal (view b) (change c) ≡ Some n → Responds b c (refused n) b
unfolding respond
refused_responds b c n e = record { answer = rw e; state = rw e; unchanged = λ m f. refl }

-- and the same of its result
pub refused_call : {A : Type 0} (give : A → Accepted) (b : Book) (c : Change) (r : Result A Refusal) (e : Refusal) → r ≡ Err e → Some (number_of e) ≡ refusal (view b) (change c)
    → Responds b c (answer_as give r) b
refused_call give b c r e is by = rw is (refused_responds b c (number_of e) (sym by))

pub accepted_responds : (b : Book) (c : Change) (a : Accepted) (z : Book) → refusal (view b) (change c) ≡ None
    → a ≡ answer (view b) (change c) → view z ≡ next (view b) c → Responds b c (accepted a) z
unfolding respond
accepted_responds b c a z e f g = record { answer = rw e (ap accepted f); state = rw e g; unchanged = λ n h. cc (e, h) }
