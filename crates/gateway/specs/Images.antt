-- Lists of calls from C on one struct, from an accepted founding. On the book in it they are lists of calls on a book, so that all that is
-- shown of those (history/specs/Whole.antt) holds of them; what C sees are their answers. proofs/Imaged.antt has the proofs.
use Rattle.std.specs.Prelude.{ℕ, ◌<◌, ◌≡◌, true, false, not, List, [], ◌∷◌, eqb, is_some}
use Rattle.grain.specs.Lists.{every}
use Rattle.grain.specs.Check.{within}
use Rattle.record.specs.Refusals.{unsound}
use Rattle.record.specs.Founding.{Start, founding_refusal, founded}
use Rattle.record.specs.Record.{Change, Question, Call, change, question, Answer, refusal, answers}
use Rattle.record.specs.Theorems.{check_after}
use Rattle.book.specs.Book.{is_book, view}
use Rattle.history.specs.Trace.{Trace}
use Rattle.history.specs.Whole.{Run}
use Rattle.gateway.specs.declared.image.EventWords.{EventWords}
use Rattle.gateway.specs.declared.image.Image.{Image}
use Rattle.gateway.specs.Calls.{answer_number, renewed_after, events_after, answer_to, RespondsImage, image_check, with_span, image_span, no_renewed, no_events, FoundsImage}
use Rattle.gateway.specs.declared.spans.Spanned.{Spanned}

-- what a C program sees of a call: the number that it returns, and what then stands in renewed and events
pub record Seen : Type 0 where
  pub number : ℕ
  pub renewed : List ℕ
  pub events : List EventWords

abbrev pub sees : ℕ → Image → Seen
sees n i = record { number = n; renewed = i.renewed; events = i.events }

-- what it sees of calls that are so answered, where rs and es stood there before
unfoldable pub seen_of : List ℕ → List EventWords → List Answer → List Seen
seen_of rs es [] = []
seen_of rs es (a ∷ l) =
    record { number = answer_number a; renewed = renewed_after a rs; events = events_after a es }
    ∷ seen_of (renewed_after a rs) (events_after a es) l

-- One call on a struct, by its contract.
pub data ImageStep : Image → Call → Seen → Image → Type 0 where
  changes : {i now : Image} {c : Change} (n : ℕ) → RespondsImage i c n now → ImageStep i (change c) (sees n now) now
  -- a question leaves the very struct
  asks : {i : Image} {q : Question} (n : ℕ) → n ≡ answer_number (answer_to i (question q)) → ImageStep i (question q) (sees n i) i

-- from an accepted founding on any struct
pub record ImageRun (s : Start) (cs : List Call) (vs : List Seen) (z : Image) : Type 0 where
  pub lent : Image
  pub fresh : Image
  pub founds : FoundsImage lent s 0 fresh
  pub trace : Trace ImageStep fresh cs vs z

-- an order that is sent again at an end of its span is within, with the same span
pub record ResentImage (i : Image) (p size month : ℕ) (r : Spanned) : Type 0 where
  pub at_lowest : image_span i p size month r.lowest ≡ record { answer = within; lowest = r.lowest; highest = r.highest }
  pub at_highest : image_span i p size month r.highest ≡ record { answer = within; lowest = r.lowest; highest = r.highest }

pub record ImagesAsBooks : Type 0 where
  -- a list of calls on the struct is one on the book in it, answered as the Record answers
  pub runs : (s : Start) (cs : List Call) (vs : List Seen) (z : Image) → ImageRun s cs vs z → Run s cs (answers (founded s) cs) z.book
  -- every number, and what stands beside the book after every call, is what these answers give
  pub seen : (s : Start) (cs : List Call) (vs : List Seen) (z : Image) → ImageRun s cs vs z
      → vs ≡ seen_of no_renewed no_events (answers (founded s) cs)
  -- so no call of a list returns 1
  pub never_unsound : (s : Start) (cs : List Call) (vs : List Seen) (z : Image) → ImageRun s cs vs z
      → every (λ v. not (eqb v.number unsound)) vs ≡ true
  -- a further check returns the Record's answer with its span
  pub spanned : (s : Start) (cs : List Call) (vs : List Seen) (z : Image) → ImageRun s cs vs z
      → (p size month price : ℕ) → image_span z p size month price ≡ with_span (check_after s cs p size month price)
  -- a span that a check shows can be sent again
  pub resent : (s : Start) (cs : List Call) (vs : List Seen) (z : Image) → ImageRun s cs vs z
      → (p size month price : ℕ) → 0 < (image_span z p size month price).lowest
      → ResentImage z p size month (image_span z p size month price)

-- Whatever struct is lent: a change or a founding returns 0 where it is accepted, and nowhere else.
pub record ZeroAccepts : Type 0 where
  pub changes :
      (i now : Image) (c : Change) (n : ℕ) → RespondsImage i c n now
      → eqb n 0 ≡ not (is_some (refusal (view i.book) (change c)))
  pub foundings : (i now : Image) (s : Start) (n : ℕ) → FoundsImage i s n now → eqb n 0 ≡ not (is_some (founding_refusal s))

-- A struct that holds no book of this format: every call but a founding returns 1 and leaves it as it is.
pub record NoImage : Type 0 where
  pub changes : (i now : Image) (c : Change) (n : ℕ) → is_book i.book ≡ false → RespondsImage i c n now → (n ≡ unsound) × (now ≡ i)
  pub checks : (i : Image) (p size month price : ℕ) → is_book i.book ≡ false → image_check i p size month price ≡ unsound
  pub spans :
      (i : Image) (p size month price : ℕ) → is_book i.book ≡ false
      → image_span i p size month price ≡ record { answer = unsound; lowest = 0; highest = 0 }
