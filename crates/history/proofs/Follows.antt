-- A list of calls follows the Record: its answers and the book that it leaves are the Record's.
use Rattle.std.proofs.Common.{◌≡◌, refl, List, ◌∷◌}
use Rattle.record.specs.Record.{Call, Answer, respond, state_after, answers}
use Rattle.book.specs.declared.Book.{Book}
use Rattle.book.specs.Book.{view}
use Rattle.history.specs.Step.{Step, changes, asks}
use Rattle.history.specs.Trace.{Trace, done, more}

-- one call
record Stepped (b : Book) (c : Call) (a : Answer) (y : Book) : Type 0 where
  answer : a ≡ (respond (view b) c).answer
  state : view y ≡ (respond (view b) c).state

stepped : {b y : Book} {c : Call} {a : Answer} → Step b c a y → Stepped b c a y
unfolding respond
stepped (changes r) = record { answer = r.answer; state = r.state }
stepped (asks e) = record { answer = e; state = refl }

-- a list
more_answered : {b y : Book} {c : Call} {a : Answer} (cs : List Call) {rs : List Answer}
    → Stepped b c a y → rs ≡ answers (view y) cs → a ∷ rs ≡ answers (view b) (c ∷ cs)
unfolding answers
more_answered cs s e = rw (← s.state) (cc (s.answer, e))

pub answered : {b z : Book} {cs : List Call} {rs : List Answer} → Trace Step b cs rs z → rs ≡ answers (view b) cs
unfolding answers
answered done = refl
answered (more s t) = more_answered _ (stepped s) (answered t)

pub contents : {b z : Book} {cs : List Call} {rs : List Answer} → Trace Step b cs rs z → view z ≡ state_after (view b) cs
unfolding state_after
contents done = refl
contents (more s t) = rw (← (stepped s).state) (contents t)
