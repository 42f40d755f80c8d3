-- The season file, a list of bytes, and the line that `season` writes for it.
use Rattle.std.specs.Prelude.{ℕ, zero, suc, ◌+◌, ◌*◌, ◌/◌, ◌%◌, Bool, not, ◌&&◌, ◌||◌, cond, List, [], ◌∷◌, ltb, eqb, length, get_or, Result}
use Rattle.grain.specs.Lists.{every, is_ascending}
use Rattle.grain.specs.Products.{is_product}
use Rattle.grain.specs.Prices.{is_settlement}
use Rattle.grain.specs.Dates.{is_date}
use Rattle.grain.specs.Margin.{Outcome, refused, gives, outcome_of}
use Rattle.grain.specs.Refusals.{misshapen, no_such_product, no_such_date, bad_price}
use Rattle.grain.specs.Amounts.{window_length, expanded_of, season_of}
use Rattle.grain.specs.declared.refusals.Refusal.{Refusal}
use Rattle.season.specs.declared.file.SeasonLimits.{SeasonLimits}

-- word k of the file: 32 bits, little-endian
unfoldable pub word_at : List ℕ → ℕ → ℕ
word_at file k =
    get_or file (4 * k) 0
    + 256 * get_or file (4 * k + 1) 0
    + 65536 * get_or file (4 * k + 2) 0
    + 16777216 * get_or file (4 * k + 3) 0

-- the n words from word k on
unfoldable pub words_from : List ℕ → ℕ → ℕ → List ℕ
words_from file k zero = []
words_from file k (suc n) = word_at file k ∷ words_from file (suc k) n

-- how many words a file has that is not misshapen
abbrev pub file_words : ℕ
file_words = 2 + 2 * window_length

abbrev pub product_in : List ℕ → ℕ
product_in file = word_at file 0

abbrev pub count_in : List ℕ → ℕ
count_in file = word_at file 1

abbrev pub dates_in : List ℕ → List ℕ
dates_in file = words_from file 2 window_length

abbrev pub settlements_in : List ℕ → List ℕ
settlements_in file = words_from file (2 + window_length) window_length

unfoldable pub is_misshapen : List ℕ → Bool
is_misshapen file =
    ltb (length file) 8 || not (eqb (length file) (8 + 8 * count_in file)) || not (eqb (count_in file) window_length)

-- a date is year × 10,000 + month × 100 + day
unfoldable pub is_date_word : ℕ → Bool
is_date_word w = is_date (w / 10000) (w / 100 % 100) (w % 100)

-- the numbers of a line with limits
abbrev pub values_of : SeasonLimits → List ℕ
values_of s = s.product ∷ s.limits.initial ∷ s.limits.expanded ∷ []

-- a file's limits or refusal as the rule says it
abbrev pub line_as : Result SeasonLimits Refusal → Outcome
line_as r = outcome_of values_of r

-- what the line says, for any bytes: the refusals in their order, then the product and its limits
unfoldable pub season_line : List ℕ → Outcome
season_line file =
    cond (is_misshapen file) (refused misshapen)
    (cond (not (is_product (product_in file))) (refused no_such_product)
    (cond (not (every is_date_word (dates_in file) && is_ascending (dates_in file))) (refused no_such_date)
    (cond (not (every (is_settlement (product_in file)) (settlements_in file))) (refused bad_price)
    (gives
    (product_in file
    ∷ season_of (product_in file) (settlements_in file)
    ∷ expanded_of (product_in file) (season_of (product_in file) (settlements_in file))
    ∷ [])))))
