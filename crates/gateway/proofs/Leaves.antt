-- A change of the book in a struct, refused or accepted: what gives all that the call by pointer promises.
use Rattle.std.proofs.Common.{ℕ, ◌≡◌, refl, sym, ◌∙◌, ap, List}
use Rattle.std.specs.Prelude.{Option, Some, None, Result, Ok, Err}
use Rattle.grain.specs.Refusals.{number_of}
use Rattle.grain.specs.declared.refusals.Refusal.{Refusal}
use Rattle.record.specs.Record.{Change, convert, change, Accepted, converted, refused, accepted, refusal, answer, respond}
use Rattle.record.proofs.AnswerBy.{accepted_with}
use Rattle.book.specs.declared.Book.{Book}
use Rattle.book.specs.Book.{view}
use Rattle.book.specs.Calls.{Responds, answer_as}
use Rattle.converting.specs.Converts.{Converts}
use Rattle.converting.proofs.Conversions.{stays}
use Rattle.gateway.specs.declared.image.EventWords.{EventWords}
use Rattle.gateway.specs.declared.image.Image.{Image}
use Rattle.gateway.specs.Calls.{answer_number, number_in, renewed_after, events_after, RespondsImage, ConvertsImage}

abbrev pub with_book : Image → Book → Image
with_book i b = record { book = b; renewed = i.renewed; events = i.events }

pub refused_image : (i : Image) (c : Change) (n : ℕ) (z : Book) → Responds i.book c (refused n) z → RespondsImage i c n (with_book i z)
refused_image i c n z r =
    record {
      number = ap answer_number r.answer;
      state = r.state;
      renewed = ap (λ a. renewed_after a i.renewed) r.answer;
      events = ap (λ a. events_after a i.events) r.answer;
      unchanged = λ m e. ap (with_book i) (r.unchanged m e);
    }

module _ (i : Image) (c : Change) (a : Accepted) (z : Book) (r : Responds i.book c (accepted a) z) where
  not_refused : refusal (view i.book) (change c) ≡ None
  unfolding respond
  not_refused = (accepted_with (refusal (view i.book) (change c)) a (answer (view i.book) (change c)) r.answer).0

  -- with the answers beside the book
  pub accepted_image : (rs : List ℕ) (es : List EventWords) → answer_number (accepted a) ≡ 0
      → rs ≡ renewed_after (accepted a) i.renewed → es ≡ events_after (accepted a) i.events
      → RespondsImage i c 0 (record { book = z; renewed = rs; events = es })
  accepted_image rs es zero renewed events =
      record {
        number = sym zero ∙ ap answer_number r.answer;
        state = r.state;
        renewed = renewed ∙ ap (λ a. renewed_after a i.renewed) r.answer;
        events = events ∙ ap (λ a. events_after a i.events) r.answer;
        unchanged = λ m e. cc (not_refused, e);
      }

-- a call that answers nothing
pub silent_image : (i : Image) (c : Change) (a : Accepted) (z : Book) (result : Result (Unit {0}) Refusal)
    → answer_number (accepted a) ≡ 0 → i.renewed ≡ renewed_after (accepted a) i.renewed → i.events ≡ events_after (accepted a) i.events
    → Responds i.book c (answer_as (λ u. a) result) z → RespondsImage i c (number_in result) (with_book i z)
silent_image i c a z (Ok u) zero renewed events r = accepted_image i c a z r i.renewed i.events zero renewed events
silent_image i c a z (Err e) zero renewed events r = refused_image i c (number_of e) z r

-- a conversion
pub converts_image : (i : Image) (z : Book) (result : Result (Unit {0}) Refusal) → Converts i.book result z → ConvertsImage i (number_in result) (with_book i z)
converts_image i z result r =
    record {
      responds = silent_image i convert converted z result refl refl refl r.responds;
      book = r.book;
      same = λ e. go e (refusal (view i.book) (change convert)) refl;
    }
  where
    go : i.book.edition ≡ 2023 → (o : Option ℕ) → refusal (view i.book) (change convert) ≡ o → with_book i z ≡ i
    go e (Some n) is = ap (with_book i) (r.responds.unchanged n is)
    go e None is = ap (with_book i) (r.book is ∙ stays i.book e)
