-- A test of each place of an array, as a test of each number below its length.
use Rattle.std.proofs.Common.{◌≡◌, refl, sym, ◌∙◌, ap, ℕ, ◌<◌, Bool, List, length, get_or}
use native.Mathlib.Nat.{zero-add}
use Rattle.std.specs.List.{list_all, enumerate_from}
use Rattle.std.proofs.lemmas.List.FromFn.{length-enumerate_from, get_or-enumerate_from}
use Rattle.grain.specs.Lists.{every}
use Rattle.grain.proofs.Every.{every_mapped}
use Rattle.grain.proofs.Chains.{every_is}
use Rattle.std.specs.List.{range_with_len}
use Rattle.book.proofs.Numbers.{values_are}

pub every_place : {A : Type 0} (f : A → Bool) (n : ℕ) (xs : List A) (d : A) → length xs ≡ n
    → every (λ i. f (get_or xs i d)) (range_with_len 0 n) ≡ list_all f xs
every_place f n xs d long =
    sym (every_mapped (λ i. f (get_or xs i d)) (λ i. get_or xs i d) f (λ i. refl) (range_with_len 0 n))
    ∙ ap (every f) (sym (values_are d (λ i. get_or xs i d) n xs long (λ i l. refl)))
    ∙ every_is f xs

-- the same of a test that is asked with the number too
pub every_counted : {A : Type 0} (f : ℕ × A → Bool) (n : ℕ) (xs : List A) (d : A) → length xs ≡ n
    → list_all f (enumerate_from 0 xs) ≡ every (λ i. f (i, get_or xs i d)) (range_with_len 0 n)
every_counted {A} f n xs d long =
    let pair : ℕ → ℕ × A = λ i. (i, get_or xs i d) in
    sym (every_is f (enumerate_from 0 xs))
    ∙ ap (every f) (values_are (0, d) pair n (enumerate_from 0 xs) (length-enumerate_from 0 xs ∙ long) (λ i l. let fits : i < length xs = rw long l in get_or-enumerate_from 0 xs i (0, d) fits ∙ ap (λ j. (j, get_or xs i d)) (zero-add i)))
    ∙ every_mapped (λ i. f (pair i)) pair f (λ i. refl) (range_with_len 0 n)
