-- A book that holds what the Record holds after a list of calls, however it came by it: what is known of it, and of two of them.
use Rattle.std.proofs.Common.{◌≡◌, ap, sym, ◌∙◌, true, None, ℕ, ◌<◌, List, ◌++◌, Some}
use Rattle.grain.specs.Check.{span_in, is_within}
use Rattle.grain.specs.declared.check.Span.{Span}
use Rattle.grain.specs.declared.check.Verdict.{Verdict}
use Rattle.grain.specs.declared.check.Verdict.TheVariants.{Free}
use Rattle.record.specs.State.{Product, Group, Record, group_of, group_at}
use Rattle.record.specs.Founding.{Start, founding_refusal}
use Rattle.record.specs.Record.{check, Call, checked, accepted, ask}
use Rattle.record.specs.History.{SameFor}
use Rattle.record.specs.Theorems.{after, history_of, Together, BetweenLimits, Resent}
use Rattle.record.specs.Sound.{is_sound}
use Rattle.record.proofs.Proved.{theorems}
use Rattle.record.proofs.GroupTable.{group_small}
use Rattle.book.specs.declared.Book.{Book}
use Rattle.book.specs.Book.{view_product, view_group, view_common, view}
use Rattle.book.proofs.SoundFacts.{edition_is}
use Rattle.book.proofs.Views.{group_is, product_is}
use Rattle.checking.specs.Checks.{book_answer}
use Rattle.history.specs.Whole.{SameProduct, SameContents}

-- ---- what a book holds, part by part
product_same : (z : Book) (p : ℕ) → p < 8 → SameProduct z (view z) p
unfolding view_product view_group
product_same z p l =
    let q = sym (product_is z p l) in
    let g = sym (group_is z (group_of p) (group_small p l)) in
    record {
      initial_limit = ap (λ (q : Product). q.initial_limit) q;
      expanded_limit = ap (λ (q : Product). q.expanded_limit) q;
      window = ap (λ (q : Product). q.window) q;
      today = ap (λ (q : Product). q.today) q;
      last = ap (λ (q : Product). q.last) q;
      level = ap (λ (g : Group). g.level) g;
      mark = ap (λ (g : Group). g.mark) g;
    }

same_contents : (z : Book) (r : Record) → is_sound r ≡ true → view z ≡ r → SameContents z r
unfolding view view_common
same_contents z r sound e =
    record {
      edition = sym (edition_is z (rw e sound)) ∙ ap (λ (r : Record). r.common.edition) e;
      is_open = ap (λ (r : Record). r.common.is_open) e;
      opened = ap (λ (r : Record). r.common.opened) e;
      products = λ p l. rw (← e) (product_same z p l);
    }

-- ---- one book
module _ (s : Start) (cs : List Call) (z : Book) (is : view z ≡ after s cs) where
  answered : (p size month price : ℕ) → ask (after s cs) (check p size month price) ≡ book_answer z p size month price
  answered p size month price = ap (λ (r : Record). ask r (check p size month price)) (sym is)

  pub compared : founding_refusal s ≡ None → SameContents z (after s cs)
  compared is_founded = same_contents z (after s cs) (theorems.stays_sound s is_founded cs) is

  pub together : Together (view z)
  together = rw is (theorems.together s cs)

  pub coupled : (p q i j m n x y : ℕ) (v w : Verdict) → group_of p ≡ group_of q
      → BetweenLimits (view z) p m x → BetweenLimits (view z) q n y
      → book_answer z p i m x ≡ accepted (checked v) → book_answer z q j n y ≡ accepted (checked w) → is_within v ≡ is_within w
  coupled p q i j m n x y v w e a b h k =
      theorems.coupled s cs p q i j m n x y v w e (rw (← is) a) (rw (← is) b) (answered p i m x ∙ h) (answered q j n y ∙ k)

  pub resent : (p size month price : ℕ) (v : Verdict) (allowed : Span) → book_answer z p size month price ≡ accepted (checked v)
      → span_in v ≡ Some allowed → Resent (view z) p size month allowed
  resent p size month price v allowed e has =
      rw is (theorems.resent s cs p size month price v allowed (answered p size month price ∙ e) has)

-- ---- a book, and one after further calls
pub stays_free : (s : Start) (cs ds : List Call) (y z : Book) → view y ≡ after s cs → view z ≡ after s (cs ++ ds)
    → (p q i j month x w : ℕ) (v : Verdict) → book_answer y p i month x ≡ accepted (checked Free) → book_answer z q j month w ≡ accepted (checked v) → v ≡ Free
stays_free s cs ds y z one other p q i j month x w v e h =
    theorems.stays_free s cs ds p q i j month x w v (answered s cs y one p i month x ∙ e) (answered s (cs ++ ds) z other q j month w ∙ h)

-- ---- two books
module _ (s : Start) (g : ℕ) (cs ds : List Call) (y z : Book) (one : view y ≡ after s cs) (other : view z ≡ after s ds)
    (same : SameFor g (history_of s cs) (history_of s ds)) where
  pub same_day : (view y).common ≡ (view z).common
  same_day = rw (one, other) (theorems.same_day s g cs ds same)

  pub same_group : group_at (view y) g ≡ group_at (view z) g
  same_group = rw (one, other) (theorems.same_group s g cs ds same)

  pub same_checks : founding_refusal s ≡ None → (p size month price : ℕ) → group_of p ≡ g → book_answer y p size month price ≡ book_answer z p size month price
  same_checks is_founded p size month price e =
      sym (answered s cs y one p size month price)
      ∙ theorems.same_checks s is_founded g cs ds same p size month price e
      ∙ answered s ds z other p size month price
