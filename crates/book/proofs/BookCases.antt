-- Which structs are a book, at the edges of format and flags.
use Prim.Native.Nat.{ℕ}
use mathlib.Core.Path.{◌≡◌, refl}
use mathlib.Core.Bool.{true, false}
use Rattle.std.proofs.Common.{set}
use Rattle.book.specs.declared.Book.{Book}
use Rattle.book.specs.Book.{is_book}
use Rattle.book.specs.Founding.{no_book}

-- all but the format is 0
abbrev blank : ℕ → Book
blank format = record no_book { format = format }

abbrev with_open : ℕ → Book
with_open flag = record (blank 3) { is_open = flag }

-- the mark of the last group
abbrev with_mark : ℕ → Book → Book
with_mark flag b = record b { standings = set b.standings 4 (record { expanded = 0; marked = flag }) }

-- this format
pub format_three : is_book (blank 3) ≡ true
unfolding is_book no_book
format_three = refl

pub format_none : is_book (blank 0) ≡ false
unfolding is_book no_book
format_none = refl

-- that with no edition
pub format_two : is_book (blank 2) ≡ false
unfolding is_book no_book
format_two = refl

pub format_four : is_book (blank 4) ≡ false
unfolding is_book no_book
format_four = refl

-- a day open, and the last group marked
pub flags_of_one : is_book (with_mark 1 (with_open 1)) ≡ true
unfolding is_book no_book
flags_of_one = refl

pub open_of_two : is_book (with_open 2) ≡ false
unfolding is_book no_book
open_of_two = refl

pub marked_of_two : is_book (with_mark 2 (blank 3)) ≡ false
unfolding is_book no_book
marked_of_two = refl
