-- What keeps a book one of this format; and a day that is shown.
use Rattle.std.proofs.Common.{◌≡◌, refl, sym, ◌∙◌, ℕ, zero, suc, ◌<◌, Bool, true, false, List, [], ◌∷◌, length, get_or, eqb, arith}
use mathlib.Core.Bool.{◌&&◌}
use Rattle.std.specs.Prelude.{Some}
use Rattle.std.specs.List.{list_all}
use borrow.Author.Tests.{ne_eqb}
use Rattle.grain.specs.Lists.{◌and◌, every}
use Rattle.record.specs.declared.Day.{Day}
use Rattle.record.specs.State.{group_count}
use Rattle.record.specs.Opening.{is_true_day}
use Rattle.record.proofs.TrueDays.{valid}
use Rattle.book.specs.declared.Book.{Book}
use Rattle.book.specs.Book.{no_standing, is_flag, is_standing, is_book, edition_in, opened_in, standing_in}
use Rattle.book.specs.Numbers.{all_groups}
use Rattle.book.proofs.Items.{every_place}
use Rattle.grain.proofs.Tests.{&&-left, &&-right}

parts : (x y z : Bool) → ((x && y) && z) ≡ true → (x ≡ true) × (z ≡ true)
parts true true z e = (refl, e)
parts true false z e = let n : ◌≡◌ {A = Bool} false true = e in cc
parts false y z e = let n : ◌≡◌ {A = Bool} false true = e in cc

module _ (b : Book) (is : is_book b ≡ true) where
  shape : (eqb b.format 3 ≡ true) × (list_all is_standing b.standings ≡ true)
  unfolding is_book
  shape = parts (eqb b.format 3) (is_flag b.is_open) (list_all is_standing b.standings) is

-- what all of a list pass, a place passes, where what no place holds does
all_at : {A : Type 0} (f : A → Bool) (d : A) → f d ≡ true → (xs : List A) (i : ℕ) → list_all f xs ≡ true → f (get_or xs i d) ≡ true
all_at f d e [] i t = e
all_at f d e (x ∷ xs) zero t = &&-left (f x) (list_all f xs) t
all_at f d e (x ∷ xs) (suc i) t = all_at f d e xs i (&&-right (f x) (list_all f xs) t)

-- the flags of a book are 0 or 1
pub flags_in : (b : Book) → is_book b ≡ true → (g : ℕ) → is_standing (standing_in b g) ≡ true
flags_in b is g = all_at is_standing no_standing refl b.standings g (shape b is).1

-- and those of such standings too
all_flags : (f : ℕ → Bool) → ((g : ℕ) → g < group_count → f g ≡ true) → every f all_groups ≡ true
unfolding every ◌and◌
all_flags f e = rw (e 0 (omega arith), e 1 (omega arith), e 2 (omega arith), e 3 (omega arith), e 4 (omega arith))

module _ (b z : Book) (is : is_book b ≡ true) (f : z.format ≡ b.format) (o : is_flag z.is_open ≡ true)
    (five : length z.standings ≡ group_count) (flags : (g : ℕ) → g < group_count → is_standing (standing_in z g) ≡ true) where
  still_book : is_book z ≡ true
  unfolding is_book
  still_book =
      let standings = sym (every_place is_standing group_count z.standings no_standing five) ∙ all_flags (λ g. is_standing (standing_in z g)) flags in
      rw (f, (shape b is).0, o, standings)

  -- a change that keeps the format and the edition, and leaves flags, keeps what is shown of the edition
  pub edition_kept : z.edition ≡ b.edition → edition_in z ≡ edition_in b
  unfolding edition_in
  edition_kept e = rw (still_book, is, e)

-- a true day is not four zeros
pub opened_on : (z : Book) (d : Day) → z.day ≡ d → is_true_day d ≡ true → opened_in z ≡ Some d
unfolding opened_in
opened_on z d e t =
    let year : eqb d.year 0 ≡ false = ne_eqb d.year 0 (let first = (valid d t).first in λ n. absurd (omega arith)) in
    rw (e, year)
