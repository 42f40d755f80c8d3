-- The words of a file as a function of their places, and a word of the file by its four bytes.
use Rattle.std.proofs.Common.{◌≡◌, ◌+◌, ◌*◌, ◌<◌, refl, sym, ap, ◌∙◌, arith, add-one, add-zero, ℕ, suc, zero, List, [], ◌∷◌, length, get_or, take, drop}
use Rattle.std.specs.Int.{w32, from_le_bytes}
use Rattle.std.specs.List.{range_with_len}
use Rattle.std.specs.Simd.{first_chunks}
use Rattle.std.proofs.lemmas.List.FromFn.{fill_by_all}
use Rattle.std.proofs.lemmas.List.{drop-drop, get_or-take, get_or-drop}
use mathlib.Core.List.{map}
use Rattle.season.specs.SeasonFile.{word_at, words_from, product_in, count_in, dates_in, settlements_in}

words_from-is : (file : List ℕ) (k n : ℕ) → words_from file k n ≡ map (word_at file) (range_with_len k n)
unfolding words_from
words_from-is file k zero = refl
words_from-is file k (suc n) = rw add-one (ap (λ l. word_at file k ∷ l) (words_from-is file (suc k) n))

quad_at : (file : List ℕ) (n i : ℕ) → i < n → get_or (first_chunks 4 n file) i [] ≡ take 4 (drop (4 * i) file)
quad_at file zero i l = absurd (omega arith)
quad_at file (suc n) zero l = refl
quad_at file (suc n) (suc i) l =
    let e : 4 + 4 * i ≡ 4 * suc i = omega arith in
    quad_at (drop 4 file) n i (omega arith) ∙ ap (take 4) (drop-drop (4 * i) 4 file ∙ ap (λ j. drop j file) e)

word_of_quad : (file : List ℕ) (i : ℕ) → from_le_bytes w32 (take 4 (drop (4 * i) file)) ≡ word_at file i
unfolding word_at
word_of_quad file i =
    let rest = drop (4 * i) file in
    omega
    (arith, get_or-take 4 rest 0 0 (omega arith), get_or-take 4 rest 1 0 (omega arith), get_or-take 4 rest 2 0 (omega arith), get_or-take 4 rest 3 0 (omega arith), rw add-zero at (get_or-drop (4 * i) file 0 0), get_or-drop (4 * i) file 1 0, get_or-drop (4 * i) file 2 0, get_or-drop (4 * i) file 3 0)

pub all_words : (file words : List ℕ) → length words ≡ 92
    → ((i : ℕ) → i < 92 → get_or words i 0 ≡ from_le_bytes w32 (get_or (first_chunks 4 92 file) i [])) → words ≡ words_from file 0 92
all_words file words long each =
    fill_by_all (word_at file) words 92 0 long (λ k l. each k l ∙ ap (from_le_bytes w32) (quad_at file 92 k l) ∙ word_of_quad file k)
    ∙ sym (words_from-is file 0 92)

-- the parts of a file, where these are its words
module _ (file words : List ℕ) (all : words ≡ words_from file 0 92) where
  pub product_is : get_or words 0 0 ≡ product_in file
  unfolding words_from
  product_is = rw all

  pub count_is : get_or words 1 0 ≡ count_in file
  unfolding words_from
  count_is = rw all

  pub dates_are : take 45 (drop 2 words) ≡ dates_in file
  unfolding words_from
  dates_are = rw all

  pub settlements_are : take 45 (drop 47 words) ≡ settlements_in file
  unfolding words_from
  settlements_are = rw all

pub length-settlements_in : (file : List ℕ) → length (settlements_in file) ≡ 45
unfolding words_from
length-settlements_in file = refl
