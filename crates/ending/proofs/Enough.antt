-- Whether a product's moves of exactly I are enough in 2014, told by what its contracts count.
use Prim.Native.Nat.{ℕ, zero, suc, min, ◌+◌, ◌*◌, ◌^◌, ◌<◌, ◌≤◌}
use mathlib.Core.Path.{◌≡◌, refl, sym, ◌∙◌, ap}
use mathlib.Core.Bool.{Bool, true, false, not, ◌||◌, cond}
use mathlib.Core.List.{List, [], ◌∷◌, ◌++◌}
use Rattle.std.specs.Prelude.{Option, Some, None}
use native.Mathlib.Omega.{arith}
use borrow.Author.Tests.{le-leb, lt-ltb, leb-true, ltb-true, ltb-false}
use lib.Dec.{leb, ltb, eqb}
use lib.ListN.{length, take, get_or}
use Rattle.std.specs.List.{list_any, filter, sum_by}
use Rattle.std.proofs.lemmas.List.{get_or_past, length-take}
use Rattle.std.proofs.lemmas.List.Elements.{All-from_get_or}
use Rattle.std.proofs.lemmas.List.Sums.{sum_by-cons, sum_by-le}
use Rattle.grain.proofs.Below.{below}
use Rattle.grain.specs.Lists.{distance}
use Rattle.grain.specs.Products.{firsts, first_of, is_last_crop_month}
use Rattle.grain.specs.Spot.{is_spot}
use Rattle.grain.specs.declared.spot.TradeDate.{TradeDate}
use Rattle.record.specs.declared.Contract.{Contract}
use Rattle.record.specs.Choices.{keep}
use Rattle.record.specs.State.{Product, max_contracts, sheet_or, settlement_on}
use Rattle.record.specs.Move.{Move, move_from, moves_among, product_moves, is_trigger, is_of_last_crop_month}
use Rattle.record.specs.Edition.{of2014}
use Rattle.sheets.specs.declared.sheet.Sheet.{Sheet}
use Rattle.sheets.specs.Sheets.{no_contract, entries_of, sheet_in}
use Rattle.sheets.proofs.Rest.{counted as counted_lem}
use Rattle.book.specs.declared.Book.{Book}
use Rattle.book.specs.Book.{limit_in, today_in, last_in, view_product}
use Rattle.book.proofs.SheetsIn.{sheet_contracts}
use Rattle.ending.specs.declared.lead.condition.Condition.{Condition}
use Rattle.ending.specs.declared.lead.condition.Condition.TheVariants.{OneAtInitial, TwoAtInitial, AtLeastInitial, AtExpanded}
use Rattle.ending.specs.Lead.{meets, suffice}
use Rattle.ending.specs.Search.{count_of, count_from, are_enough_in, suffice_in}

-- what moves of exactly I count
abbrev count_in : Move → ℕ
count_in m = cond (is_of_last_crop_month m) 2 1

abbrev counted : List Move → ℕ
counted [] = 0
counted (m ∷ ms) = count_in m + counted ms

counts_more : (m : Move) → 1 ≤ count_in m
counts_more m = go (is_of_last_crop_month m)
  where
    go : (x : Bool) → 1 ≤ cond x 2 1
    go true = omega arith
    go false = omega arith

enough_by : (ms : List Move) → leb 2 (counted ms) ≡ of2014.are_enough ms
enough_by [] = refl
enough_by (m ∷ []) = go (is_of_last_crop_month m)
  where
    go : (x : Bool) → leb 2 (cond x 2 1 + 0) ≡ leb 2 1 || (x || false)
    go true = refl
    go false = refl
enough_by (m ∷ n ∷ ms) =
    let one = counts_more m in
    let other = counts_more n in
    le-leb 2 (count_in m + (count_in n + counted ms)) (omega arith)
    ∙ sym (ap (◌|| list_any is_of_last_crop_month (m ∷ n ∷ ms)) (le-leb 2 (length (m ∷ n ∷ ms)) (omega arith)))

-- a contract counts two at most
at_most_two : (p i : ℕ) (last : List Contract) (c : Contract) → count_of p i last c ≤ 2
unfolding count_of
at_most_two p i last c = go (settlement_on last c.month)
  where
    some_change : (x y : Bool) → cond x (cond y 2 1) 0 ≤ 2
    some_change true true = omega arith
    some_change true false = omega arith
    some_change false y = omega arith

    go : (o : Option ℕ) → count_from p i c o ≤ 2
    go None = omega arith
    go (Some y) = some_change (eqb (distance c.settlement y) i) (is_last_crop_month p c.month)

first_small : (p : ℕ) → first_of p ≤ 8
unfolding firsts
first_small p = go (ltb p 8) refl
  where
    go : (x : Bool) → ltb p 8 ≡ x → first_of p ≤ 8
    go true e = leb-true _ _ (below 8 (λ p. leb (first_of p) 8) refl p (ltb-true _ _ e))
    go false e =
        let past : length firsts ≤ p = ltb-false p 8 e in
        rw (get_or_past firsts p 0 past) (omega arith)

-- what the first N count fits a u32
pub sum_fits : (p i : ℕ) (last s : List Contract) → sum_by (count_of p i last) (take (first_of p) s) < 2 ^ 32
sum_fits p i last s =
    let f : Contract → ℕ = count_of p i last in
    let few : List Contract = take (first_of p) s in
    let most : sum_by f few ≤ length few * 2 = sum_by-le f 2 few (All-from_get_or (λ c. f c ≤ 2) few no_contract (λ j h. at_most_two p i last (get_or few j no_contract))) in
    let long : length few ≡ min (first_of p) (length s) = length-take (first_of p) s in
    let small = first_small p in
    omega arith

-- ---- joined lists
module _ {A : Type 0} (f : A → Bool) where
  keep_append : (l k : List A) → keep f (l ++ k) ≡ keep f l ++ keep f k
  keep_append [] k = refl
  keep_append (a ∷ l) k = go (f a) (keep_append l k)
    where
      go : (b : Bool) → keep f (l ++ k) ≡ keep f l ++ keep f k
          → cond b (a ∷ keep f (l ++ k)) (keep f (l ++ k)) ≡ cond b (a ∷ keep f l) (keep f l) ++ keep f k
      go true e = ap (a ∷◌) e
      go false e = e

counted-append : (ms ns : List Move) → counted (ms ++ ns) ≡ counted ms + counted ns
counted-append [] ns = omega arith
counted-append (m ∷ ms) ns = let later = counted-append ms ns in omega arith

-- ---- the contracts of a sheet
module _ (q : Product) where
  abbrev last_of : Contract → Option ℕ
  last_of c = settlement_on (sheet_or q.last) c.month

  abbrev count : Contract → ℕ
  count c = count_of q.number q.initial_limit (sheet_or q.last) c

  -- the move of a contract within the first N
  abbrev move_of : Contract → ℕ → Move
  move_of c y =
      record {
        month = c.month;
        product = q.number;
        is_first = true;
        size = distance c.settlement y;
        initial_limit = q.initial_limit;
        expanded_limit = q.expanded_limit;
      }

  -- those of one contract that trigger
  abbrev triggers_of : Bool → Contract → Option ℕ → List Move
  triggers_of is_first c o = keep is_trigger (move_from q is_first c o)

  first_counts : (c : Contract) (o : Option ℕ) → counted (triggers_of true c o) ≡ count_from q.number q.initial_limit c o
  first_counts c None = refl
  first_counts c (Some y) = go (eqb (distance c.settlement y) q.initial_limit) (is_last_crop_month q.number c.month) refl
    where
      go : (x z : Bool) → is_last_crop_month q.number c.month ≡ z → counted (cond x (move_of c y ∷ []) []) ≡ cond x (cond z 2 1) 0
      go true z e = rw e (omega arith)
      go false z e = refl

  none_late : (c : Contract) (o : Option ℕ) → triggers_of false c o ≡ []
  none_late c None = refl
  none_late c (Some y) = refl

  late_counts : (s : List Contract) → counted (keep is_trigger (moves_among q 0 s)) ≡ 0
  late_counts [] = refl
  late_counts (c ∷ s) =
      rw (keep_append is_trigger (move_from q false c (last_of c)) (moves_among q 0 s), none_late c (last_of c)) (late_counts s)

  count_is : (n : ℕ) (s : List Contract) → counted (keep is_trigger (moves_among q n s)) ≡ sum_by count (take n s)
  unfolding count_of
  count_is zero s = late_counts s
  count_is (suc n) [] = refl
  count_is (suc n) (c ∷ s) =
      let one = move_from q true c (last_of c) in
      let rest = moves_among q n s in
      rw (lt-ltb 0 (suc n) (omega arith), keep_append is_trigger one rest, counted-append (keep is_trigger one) (keep is_trigger rest), first_counts c (last_of c), count_is n s) (sym (sum_by-cons count c (take n s)))

kept_are : (f : Contract → Bool) (s : List Contract) → keep f s ≡ filter f s
kept_are f [] = refl
kept_are f (c ∷ s) = ap (λ (l : List Contract). cond (f c) (c ∷ l) l) (kept_are f s)

-- ---- what a book holds of a product
-- the contracts of a sheet whose count fits; where none is in there are none
pub sheet_entries : (s : Sheet) → s.count ≤ max_contracts → sheet_or (sheet_in s) ≡ entries_of s
sheet_entries s l = sheet_contracts s ∙ counted_lem s l

module _ (b : Book) (date : TradeDate) (p : ℕ) (today : (today_in b p).count ≤ max_contracts) (last : (last_in b p).count ≤ max_contracts) where
  enough_is : of2014.are_enough (keep is_trigger (product_moves (is_spot date) (view_product b p)))
      ≡ are_enough_in date p (limit_in b p) (entries_of (today_in b p)) (entries_of (last_in b p))
  unfolding product_moves view_product are_enough_in
  enough_is =
      let q = view_product b p in
      sym (enough_by (keep is_trigger (product_moves (is_spot date) q)))
      ∙ ap (leb 2) (count_is q (first_of p) (keep (λ c. not (is_spot date c.month)) (sheet_or q.today)))
      ∙ rw (kept_are (λ c. not (is_spot date c.month)) (sheet_or q.today), sheet_entries (today_in b p) today, sheet_entries (last_in b p) last)

  pub suffices : (condition : Condition)
      → suffice condition (keep (meets condition) (product_moves (is_spot date) (view_product b p)))
      ≡ suffice_in date p (limit_in b p) (entries_of (today_in b p)) (entries_of (last_in b p)) condition
  suffices OneAtInitial = refl
  suffices TwoAtInitial = enough_is
  suffices AtLeastInitial = refl
  suffices AtExpanded = refl
