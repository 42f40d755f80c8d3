-- Lists of calls on a struct as lists of calls on the book in it, proved; and what a struct with no book of this format in it answers.
use Rattle.std.proofs.Common.{ℕ, ◌<◌, ◌≡◌, refl, sym, ◌∙◌, ap, arith, not, eqb, List, [], ◌∷◌, Option, Some, None}
use Rattle.grain.specs.Lists.{every}
use Rattle.grain.specs.Check.{span_in}
use Rattle.grain.specs.declared.check.Span.{Span}
use Rattle.grain.specs.declared.check.Verdict.{Verdict}
use Rattle.grain.specs.declared.check.Verdict.TheVariants.{Within, Below, Above}
use Rattle.record.specs.Refusals.{unsound}
use Rattle.record.specs.State.{Record}
use Rattle.record.specs.Founding.{Start, founding_refusal, founded}
use Rattle.record.specs.Record.{Change, Question, Response, check, Call, change, question, checked, Answer, accepted, refusal, answer, answer_by, respond, ask, answers}
use Rattle.record.specs.Theorems.{is_refusal}
use Rattle.book.specs.Book.{view}
use Rattle.book.specs.Calls.{Responds}
use Rattle.book.proofs.SoundnessFirst.{unsound-refusal}
use Rattle.book.proofs.NoBook.{no_book-unsound, no_book_refuses}
use Rattle.history.specs.Step.{Step}
use Rattle.history.specs.Step as step
use Rattle.history.specs.Trace.{Trace, done, more}
use Rattle.history.specs.Whole.{Run}
use Rattle.history.proofs.Proved.{whole_history}
use Rattle.checking.specs.Checks.{book_answer}
use Rattle.gateway.specs.declared.image.EventWords.{EventWords}
use Rattle.gateway.specs.declared.image.Image.{Image}
use Rattle.gateway.specs.Calls.{answer_number, renewed_after, events_after, answer_to, RespondsImage, answer_span, with_span, no_renewed, no_events}
use Rattle.gateway.specs.Images.{Seen, sees, seen_of, ImageStep, changes, asks, ImageRun, ResentImage, ImagesAsBooks, NoImage}
use Rattle.gateway.proofs.Numbers.{number_of, accepted_by}

-- ---- one call
-- an answer to a question leaves what stands beside the book
module _ (r : Record) (q : Question) where
  keeps_renewed : (l : List ℕ) → l ≡ renewed_after (ask r q) l
  unfolding respond answer
  keeps_renewed l = go q (refusal r (question q))
    where
      go : (q : Question) (o : Option ℕ) → l ≡ renewed_after (answer_by o (answer r (question q))) l
      go q (Some n) = refl
      go (check p size month price) None = refl

  keeps_events : (l : List EventWords) → l ≡ events_after (ask r q) l
  unfolding respond answer
  keeps_events l = go q (refusal r (question q))
    where
      go : (q : Question) (o : Option ℕ) → l ≡ events_after (answer_by o (answer r (question q))) l
      go q (Some n) = refl
      go (check p size month price) None = refl

record Stepped (i : Image) (c : Call) (v : Seen) (now : Image) : Type 0 where
  seen : v ≡ sees (answer_number (answer_to i c)) now
  step : Step i.book c (answer_to i c) now.book
  state : view now.book ≡ (respond (view i.book) c).state
  renewed : now.renewed ≡ renewed_after (answer_to i c) (i.renewed)
  events : now.events ≡ events_after (answer_to i c) (i.events)

on_book : (i now : Image) (c : Change) (n : ℕ) → RespondsImage i c n now → Responds i.book c (answer_to i (change c)) now.book
on_book i now c n r =
    record { answer = refl; state = r.state; unchanged = λ m e. ap (λ (i : Image). i.book) (r.unchanged m e) }

stepped : {i now : Image} {c : Call} {v : Seen} → ImageStep i c v now → Stepped i c v now
unfolding respond
stepped {i} {now} (changes {c = c} n r) =
    record {
      seen = ap (λ n. sees n now) r.number;
      step = step.changes (on_book i now c n r);
      state = r.state;
      renewed = r.renewed;
      events = r.events;
    }
stepped {i} (asks {q = q} n e) =
    record {
      seen = ap (λ n. sees n i) e;
      step = step.asks refl;
      state = refl;
      renewed = keeps_renewed (view i.book) q i.renewed;
      events = keeps_events (view i.book) q i.events;
    }

-- ---- one list
-- what C sees of it, and what it is on the book
record Listed (i : Image) (cs : List Call) (vs : List Seen) (z : Image) : Type 0 where
  seen : vs ≡ seen_of (i.renewed) (i.events) (answers (view i.book) cs)
  trace : Trace Step i.book cs (answers (view i.book) cs) z.book

one_more : {i now z : Image} {c : Call} {v : Seen} {cs : List Call} {vs : List Seen}
    → Stepped i c v now → Listed now cs vs z → Listed i (c ∷ cs) (v ∷ vs) z
unfolding answers seen_of
one_more {i} {now} {c = c} r l =
    record {
      seen = rw (r.seen, ← r.state, ← r.renewed, ← r.events) (ap (λ l. sees (answer_number (answer_to i c)) now ∷ l) l.seen);
      trace = rw (← r.state) (more r.step l.trace);
    }

listed : {i z : Image} {cs : List Call} {vs : List Seen} → Trace ImageStep i cs vs z → Listed i cs vs z
unfolding answers seen_of
listed done = record { seen = refl; trace = done }
listed (more s t) = one_more (stepped s) (listed t)

module _ (s : Start) (cs : List Call) (vs : List Seen) (z : Image) (run : ImageRun s cs vs z) where
  is_founded : founding_refusal s ≡ None
  is_founded = accepted_by s run.founds.number

  fresh_is : view run.fresh.book ≡ founded s
  fresh_is = run.founds.state is_founded

  runs : Run s cs (answers (founded s) cs) z.book
  runs = record { fresh = run.fresh.book; founds = (is_founded, fresh_is); trace = rw (← fresh_is) (listed run.trace).trace }

  seen : vs ≡ seen_of no_renewed no_events (answers (founded s) cs)
  seen = rw (← fresh_is, ← (run.founds.renewed is_founded), ← (run.founds.events is_founded)) (listed run.trace).seen

  -- a verdict with a span, sent again at its ends
  module _ (p size month price : ℕ) where
    at_ends : (v : Verdict) (a : Span) → book_answer z.book p size month price ≡ accepted (checked v) → span_in v ≡ Some a
        → ResentImage z p size month (with_span (accepted (checked (Within a))))
    at_ends v a e has =
        let r = whole_history.resent s cs _ z.book runs p size month price v a (sym e) has in
        record { at_lowest = ap with_span r.at_lowest; at_highest = ap with_span r.at_highest }

    resends : (a : Answer) → book_answer z.book p size month price ≡ a → 0 < (answer_span a).lowest → ResentImage z p size month (with_span a)
    resends (accepted (checked (Within a))) e l = at_ends (Within a) a e refl
    resends (accepted (checked (Below a))) e l = let r = at_ends (Below a) a e refl in record { at_lowest = r.at_lowest; at_highest = r.at_highest }
    resends (accepted (checked (Above a))) e l = let r = at_ends (Above a) a e refl in record { at_lowest = r.at_lowest; at_highest = r.at_highest }
    resends a e l = absurd (omega arith)

-- no number is 1 where no answer is refusal 1
numbers_are : (rs : List ℕ) (es : List EventWords) (l : List Answer)
    → every (λ v. not (eqb v.number unsound)) (seen_of rs es l) ≡ every (λ a. not (is_refusal unsound a)) l
unfolding every seen_of
numbers_are rs es [] = refl
numbers_are rs es (a ∷ l) = rw (number_of unsound (omega arith) (omega arith) a, numbers_are (renewed_after a rs) (events_after a es) l)

pub images_as_books : ImagesAsBooks
images_as_books =
    record {
      runs = runs;
      seen = seen;
      never_unsound = λ s cs vs z run.
          ap (every (λ v. not (eqb v.number unsound))) (seen s cs vs z run)
          ∙ numbers_are no_renewed no_events (answers (founded s) cs)
          ∙ whole_history.never_unsound s cs _ z.book (runs s cs vs z run);
      spanned = λ s cs vs z run p size month price.
          ap (λ (r : Record). with_span (ask r (check p size month price))) (whole_history.contents s cs _ z.book (runs s cs vs z run));
      resent = λ s cs vs z run p size month price. resends s cs vs z run p size month price _ refl;
    }

-- ---- a struct with no book of this format in it
pub no_image : NoImage
no_image =
    record {
      changes = λ i now c n no r.
          (r.number ∙ ap (λ (r : Response). answer_number r.answer) (no_book_refuses i.book no (change c)), r.unchanged unsound (unsound-refusal (view i.book) (change c) (no_book-unsound i.book no)));
      checks = λ i p size month price no. ap (λ (r : Response). answer_number r.answer) (no_book_refuses i.book no (question (check p size month price)));
      spans = λ i p size month price no. ap (λ (r : Response). with_span r.answer) (no_book_refuses i.book no (question (check p size month price)));
    }
