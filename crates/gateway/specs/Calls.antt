-- What each call on a book by pointer promises, whatever struct is lent: what the Record answers and does to the book in it.
use Rattle.std.specs.Prelude.{ℕ, ◌≡◌, List, map, replicate, Some, None, unwrap_or, Result, Ok, Err}
use Rattle.grain.specs.Products.{product_count}
use Rattle.grain.specs.Check.{span_in, verdict_number}
use Rattle.grain.specs.Bare.{no_span, span_or}
use Rattle.grain.specs.Refusals.{number_of}
use Rattle.grain.specs.declared.check.Span.{Span}
use Rattle.grain.specs.declared.refusals.Refusal.{Refusal}
use Rattle.record.specs.declared.Event.{Event}
use Rattle.record.specs.declared.Event.TheVariants.{Quiet, Triggered, Held, Reverted, Raised}
use Rattle.record.specs.State.{group_count}
use Rattle.record.specs.Founding.{Start, founding_refusal, founded}
use Rattle.record.specs.Record.{Change, convert, Call, change, opened, ended, checked, Answer, refused, accepted, refusal, respond}
use Rattle.book.specs.declared.Book.{Book}
use Rattle.book.specs.Book.{flag_word, view}
use Rattle.converting.specs.Converts.{with_2023}
use Rattle.checking.specs.Checks.{book_answer}
use Rattle.gateway.specs.declared.image.EventWords.{EventWords}
use Rattle.gateway.specs.declared.image.Image.{Image}
use Rattle.gateway.specs.declared.spans.Spanned.{Spanned}

-- the kind, as include/botskhela.h numbers them, and the month and product of the leading contract, 0 where there is none
abbrev pub event_words : Event → EventWords
event_words Quiet = record { kind = 0; month = 0; product = 0 }
event_words (Triggered l) = record { kind = 1; month = l.month; product = l.product }
event_words (Held l) = record { kind = 2; month = l.month; product = l.product }
event_words Reverted = record { kind = 3; month = 0; product = 0 }
event_words (Raised l) = record { kind = 4; month = l.month; product = l.product }

-- the number that a call returns: 0 where it is accepted, and a check's verdict
abbrev pub answer_number : Answer → ℕ
answer_number (refused n) = n
answer_number (accepted (checked v)) = verdict_number v
answer_number (accepted a) = 0

-- that of a call that answers nothing, by its result
abbrev pub number_in : Result (Unit {0}) Refusal → ℕ
number_in (Ok u) = 0
number_in (Err r) = number_of r

-- what stands in renewed after a call, of what stood there: an accepted opening's answer, in a word for each product
abbrev pub renewed_after : Answer → List ℕ → List ℕ
renewed_after (accepted (opened l)) rs = map flag_word l
renewed_after a rs = rs

-- what stands in events after a call: what an accepted end did to each group
abbrev pub events_after : Answer → List EventWords → List EventWords
events_after (accepted (ended l)) es = map event_words l
events_after a es = es

-- what the Record of the book answers
abbrev pub answer_to : Image → Call → Answer
answer_to i c = (respond (view i.book) c).answer

-- A change: the number, the book after it, and the answers beside it are the Record's; a refused one leaves the very struct.
pub record RespondsImage (i : Image) (c : Change) (n : ℕ) (now : Image) : Type 0 where
  pub number : n ≡ answer_number (answer_to i (change c))
  pub state : view now.book ≡ (respond (view i.book) (change c)).state
  pub renewed : now.renewed ≡ renewed_after (answer_to i (change c)) i.renewed
  pub events : now.events ≡ events_after (answer_to i (change c)) i.events
  pub unchanged : (m : ℕ) → refusal (view i.book) (change c) ≡ Some m → now ≡ i

-- An accepted conversion changes the edition of the book and nothing else, so that unused places stay; a struct under 2023 stays too.
pub record ConvertsImage (i : Image) (n : ℕ) (now : Image) : Type 0 where
  pub responds : RespondsImage i convert n now
  pub book : refusal (view i.book) (change convert) ≡ None → now.book ≡ with_2023 i.book
  pub same : i.book.edition ≡ 2023 → now ≡ i

-- the number that a check returns, which is lent the struct to read only
abbrev pub image_check : Image → ℕ → ℕ → ℕ → ℕ → ℕ
image_check i p size month price = answer_number (book_answer i.book p size month price)

-- the span of an answer, two zeros where it has none
abbrev pub answer_span : Answer → Span
answer_span (accepted (checked v)) = span_or (span_in v)
answer_span a = no_span

abbrev pub with_span : Answer → Spanned
with_span a = record { answer = answer_number a; lowest = (answer_span a).lowest; highest = (answer_span a).highest }

-- what a check with its span returns
abbrev pub image_span : Image → ℕ → ℕ → ℕ → ℕ → Spanned
image_span i p size month price = with_span (book_answer i.book p size month price)

abbrev pub no_renewed : List ℕ
no_renewed = replicate product_count 0

-- quiet for every group
abbrev pub no_events : List EventWords
no_events = replicate group_count (record { kind = 0; month = 0; product = 0 })

abbrev pub fresh_image : Book → Image
fresh_image b = record { book = b; renewed = no_renewed; events = no_events }

-- A founding looks at nothing of the struct; a refused one leaves the very struct.
pub record FoundsImage (i : Image) (s : Start) (n : ℕ) (now : Image) : Type 0 where
  pub number : n ≡ unwrap_or (founding_refusal s) 0
  pub state : founding_refusal s ≡ None → view now.book ≡ founded s
  pub renewed : founding_refusal s ≡ None → now.renewed ≡ no_renewed
  pub events : founding_refusal s ≡ None → now.events ≡ no_events
  pub unchanged : (m : ℕ) → founding_refusal s ≡ Some m → now ≡ i
