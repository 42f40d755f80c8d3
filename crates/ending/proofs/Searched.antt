-- The search for the leading contract, month after month: what is known where a month has been looked through.
use Prim.Native.Nat.{ℕ, zero, suc, ◌+◌, ◌-◌, ◌≤◌, ◌<◌}
use mathlib.Core.Path.{◌≡◌, refl, sym, subst, ◌∙◌, ap, ap₂}
use mathlib.Core.Bool.{Bool, true, false, ◌&&◌, cond, false≢true}
use mathlib.Core.List.{List, map}
use Rattle.std.specs.Prelude.{Option, Some, None, is_some}
use mathlib.Core.Logic.{◌⊎◌, inl, inr, ⊎_elim}
use native.Mathlib.Nat.{eq-or-lt_of_le}
use native.Mathlib.Omega.{arith}
use borrow.Author.Tests.{le-leb, ltb-true, ltb-false, eq-eqb, eqb-true}
use lib.Dec.{ltb}
use lib.ListN.{length, take, drop}
use Rattle.grain.specs.declared.spot.TradeDate.{TradeDate}
use Rattle.grain.specs.Spot.{is_spot}
use Rattle.grain.specs.Products.{first_of}
use Rattle.std.specs.List.{list_any}
use Rattle.std.proofs.lemmas.List.{get_or_past}
use Rattle.grain.proofs.Tests.{&&-left}
use Rattle.record.specs.declared.Lead.{Lead}
use Rattle.record.specs.Choices.{concat_map}
use Rattle.record.specs.State.{Product, settlement_on}
use Rattle.record.specs.Move.{Move, product_moves}
use Rattle.record.specs.End.{leading}
use Rattle.sheets.specs.Sheets.{entries_of}
use Rattle.sheets.specs.declared.sheet.Sheet.{Sheet}
use Rattle.book.specs.declared.Book.{Book}
use Rattle.book.specs.Book.{no_sheet, limit_in, today_in, last_in, view_product}
use Rattle.std.specs.List.{range_with_len}
use Rattle.book.proofs.SheetsIn.{sheet_contracts}
use Rattle.ending.specs.declared.lead.condition.Condition.{Condition}
use Rattle.ending.specs.Search.{count_earlier, change_meets, meets_on, suffice_in, next_among, is_met_by, is_met}
use Rattle.ending.specs.Lead.{meets, candidates, moves_of, Readable}
use Rattle.std.proofs.Math.Bool.{and_comm}
use Rattle.ending.proofs.Nexts.{Nearest, Listed, nearest_among}
use Rattle.ending.proofs.Members.{member_between, Member, member_any, any_member, member_left, member_right, member_either}
use Rattle.ending.proofs.Leads.{lead_by, Behind, none-lead, one_leads}
use Rattle.ending.proofs.MovesIn.{moves_of_month, move_number}
use Rattle.ending.proofs.Enough.{sheet_entries, suffices}
use Rattle.ending.proofs.Candidates.{is_of, candidate_moves, candidates-month}

lt_or_ge : (a b : ℕ) → (a < b) ⊎ (b ≤ a)
lt_or_ge a b = go (ltb a b) refl
  where
    go : (x : Bool) → ltb a b ≡ x → (a < b) ⊎ (b ≤ a)
    go true e = inl (ltb-true a b e)
    go false e = inr (ltb-false a b e)

-- the candidates of products that stand together
module _ (f : List Move → List Move) (moves : Product → List Move) (q : ℕ → Product) (v : Move) where
  abbrev together : ℕ → ℕ → List Move
  together lo k = concat_map f (map moves (map q (range_with_len lo k)))

  abbrev of : ℕ → List Move
  of p = f (moves (q p))

  one_of : (P : Type 0) (lo k : ℕ) → Member v (together lo k) → ((p : ℕ) → lo ≤ p → p < lo + k → Member v (of p) → P) → P
  one_of P lo zero d found = absurd d
  one_of P lo (suc k) d found =
      member_either P v (of lo) (together (lo + 1) k) d
      (λ j. found lo (omega arith) (omega arith) j)
      (λ j. one_of P (lo + 1) k j (λ p a b. found p (omega arith) (omega arith)))

  among : (lo k p : ℕ) → lo ≤ p → p < lo + k → Member v (of p) → Member v (together lo k)
  among lo zero p a b d = absurd (omega arith)
  among lo (suc k) p a b d = go (λ above. among (lo + 1) k p (omega arith))
    where
      go : (lo < p → p < lo + 1 + k → Member v (of p) → Member v (together (lo + 1) k)) → Member v (together lo (suc k))
      go later =
          ⊎_elim (λ same. member_left v (of lo) (together (lo + 1) k) (subst (λ (x : ℕ). Member v (of x)) (sym same) d))
          (λ above. member_right v (of lo) (together (lo + 1) k) (later above (omega arith) d))
          (eq-or-lt_of_le a)

changed_listed : (g : Move → Bool) (p i e m : ℕ) (is_first s : Bool) (x y : Option ℕ)
    → cond s false (change_meets g p i e m is_first x y) ≡ true → is_some x ≡ true
changed_listed g p i e m is_first true x y h = absurd (false≢true h)
changed_listed g p i e m is_first false None y h = h
changed_listed g p i e m is_first false (Some x) y h = refl

-- no contract of products lo to hi meets f before month m
abbrev pub Clear : (ℕ → ℕ → Bool) → ℕ → ℕ → ℕ → Type 0
Clear f lo hi m = (q n : ℕ) → lo ≤ q → q < hi → n < m → f n q ≡ false

-- none does before the month r, or none at all
abbrev pub Ahead : (ℕ → ℕ → Bool) → ℕ → ℕ → Option ℕ → Type 0
Ahead f lo hi None = (q n : ℕ) → lo ≤ q → q < hi → f n q ≡ false
Ahead f lo hi (Some m) = Clear f lo hi m

-- none does up to month m, m among them
abbrev pub Seen : (ℕ → ℕ → Bool) → ℕ → ℕ → ℕ → Type 0
Seen f lo hi m = (q n : ℕ) → lo ≤ q → q < hi → n ≤ m → f n q ≡ false

-- none of products lo to p meets f in month m
abbrev pub ClearAt : (ℕ → ℕ → Bool) → ℕ → ℕ → ℕ → Type 0
ClearAt f lo p m = (q : ℕ) → lo ≤ q → q < p → f m q ≡ false

pub seen_next : (f : ℕ → ℕ → Bool) (lo hi m : ℕ) → Clear f lo hi m → ClearAt f lo hi m → Seen f lo hi m
seen_next f lo hi m clear here q n k l h = ⊎_elim (λ same. rw same (here q k l)) (λ before. clear q n k l before) (eq-or-lt_of_le h)

-- a product from lo on and before hi has the month on today's sheet
abbrev pub Among : Book → ℕ → ℕ → ℕ → Type 0
Among b lo hi n = (q : ℕ) × (lo ≤ q) × (q < hi) × Listed (entries_of (today_in b q)) n

-- past the book's products no sheet has a month
has_product : (b : Book) (q n : ℕ) → Listed (entries_of (today_in b q)) n → q < length b.today
unfolding entries_of
has_product b q n on =
    ⊎_elim (λ h. h)
    (λ (past : length b.today ≤ q). absurd (false≢true (sym (ap (λ (x : Sheet). is_some (settlement_on (entries_of x) n)) (get_or_past b.today q no_sheet past)) ∙ on)))
    (lt_or_ge q (length b.today))

pub nearest_in : (b : Book) (lo hi a : ℕ) (r : Option ℕ) → r ≡ next_among a (take (hi - lo) (drop lo b.today))
    → Nearest (Among b lo hi) a r
nearest_in b lo hi a r e =
    rw e
    (nearest_among a (take (hi - lo) (drop lo b.today)) (Among b lo hi)
    (λ n d. (today_in b d.0, member_between b.today lo hi d.0 no_sheet (has_product b d.0 n d.3) d.1 d.2, d.3)))

module _ (b : Book) (date : TradeDate) (condition : Condition) where
  -- the contract of product p in month m meets the condition
  abbrev pub met : ℕ → ℕ → Bool
  met m p = is_met condition date b m p

  -- in the date's month and before it every contract is spot
  pub all_spot : (lo hi : ℕ) → Seen met lo hi date.month
  unfolding is_met_by meets_on is_spot
  all_spot lo hi p n k l early = rw (le-leb n date.month early)

  module _ (lo hi : ℕ) (order : lo ≤ hi) (most : hi ≤ 8) (sound : Readable b) where
    abbrev spot : ℕ → Bool
    spot month = is_spot date month

    abbrev g : Move → Bool
    g = meets condition

    abbrev group : List ℕ
    group = range_with_len lo (hi - lo)

    -- the moves of product p
    abbrev moves_by : ℕ → List Move
    moves_by p = product_moves spot (view_product b p)

    abbrev candidates_by : ℕ → List Move
    candidates_by p = candidates condition (moves_by p)

    abbrev all : List Move
    all = concat_map (candidates condition) (moves_of b date group)

    has : (p m : ℕ) → p < 8 → list_any (is_of m) (candidates_by p) ≡ met m p
    unfolding is_met_by view_product
    has p m h =
        candidates-month condition m (moves_by p)
        ∙ ap₂ ◌&&◌ (suffices b date p (sound.today p h) (sound.last p h) condition)
        (moves_of_month g spot (view_product b p) m (rw (sheet_contracts (today_in b p)) (sound.ascending p h))
        ∙ rw (sheet_entries (today_in b p) (sound.today p h), sheet_entries (last_in b p) (sound.last p h)))
        ∙ and_comm (suffice_in date p (limit_in b p) (entries_of (today_in b p)) (entries_of (last_in b p)) condition) _

    listing : (p m : ℕ) → met m p ≡ true → Listed (entries_of (today_in b p)) m
    unfolding is_met_by meets_on
    listing p m e =
        changed_listed g p (limit_in b p).initial (limit_in b p).expanded m
        (ltb (count_earlier spot m (entries_of (today_in b p))) (first_of p)) (spot m)
        (settlement_on (entries_of (today_in b p)) m) (settlement_on (entries_of (last_in b p)) m)
        (&&-left _ (suffice_in date p (limit_in b p) (entries_of (today_in b p)) (entries_of (last_in b p)) condition) e)

    -- where nothing meets it up to month a, nothing does before the next month
    pub ahead_next : (a : ℕ) (r : Option ℕ) → Nearest (Among b lo hi) a r → Seen met lo hi a → Ahead met lo hi r
    ahead_next a r near seen = by_next r near
      where
        unmet : (q n : ℕ) → lo ≤ q → q < hi → (Among b lo hi n → a < n → ⊥) → met n q ≡ false
        unmet q n k l far = ⊎_elim (λ late. go (met n q) refl late) (λ early. seen q n k l early) (lt_or_ge a n)
          where
            go : (x : Bool) → met n q ≡ x → a < n → met n q ≡ false
            go false v late = v
            go true v late = absurd (far (q, k, l, listing q n v) late)

        by_next : (r : Option ℕ) → Nearest (Among b lo hi) a r → Ahead met lo hi r
        by_next None near = λ q n k l. unmet q n k l (λ d late. near n d late)
        by_next (Some m) near = λ q n k l h. unmet q n k l (λ d late. let w : m ≤ n = near.1 n d late in omega arith)

    -- a candidate is its product's in its month
    met_by : (v : Move) (p : ℕ) → p < hi → Member v (candidates_by p) → met v.month p ≡ true
    met_by v p l d =
        sym (has p v.month (omega arith)) ∙ member_any (is_of v.month) v (candidates_by p) d (eq-eqb v.month v.month refl)

    pub none_leads : Ahead met lo hi None → leading all ≡ None
    unfolding moves_of
    none_leads clear =
        none-lead all
        (λ v d.
        one_of (candidates condition) (product_moves spot) (view_product b) v ⊥ lo (hi - lo) d
        (λ p k l j.
        let h : p < hi = omega arith in
        false≢true (sym (clear p v.month k h) ∙ met_by v p h j)))

    -- the first product that meets the condition in a month before which nothing does
    module _ (m p : ℕ) (clear : Clear met lo hi m) (k : lo ≤ p) (l : p < hi) (here : ClearAt met lo p m) where
      first : (n t : ℕ) → lo ≤ t → t < hi → met n t ≡ true → (m < n) ⊎ ((m ≡ n) × (p ≤ t))
      first n t i j met =
          ⊎_elim (λ before. absurd (false≢true (sym (clear t n i j before) ∙ met)))
          (λ from.
          ⊎_elim
          (λ same. ⊎_elim (λ lower. absurd (false≢true (sym (here t i lower) ∙ rw same met))) (λ h. inr (same, h)) (lt_or_ge t p))
          (λ later. inl later) (eq-or-lt_of_le from))
          (lt_or_ge n m)

      low : (v : Move) → v.month ≡ m → v.product ≡ p → (w : Move) → Member w all → Behind (lead_by v) (lead_by w)
      unfolding moves_of view_product
      low v in-month by_product w d =
          one_of (candidates condition) (product_moves spot) (view_product b) w (Behind (lead_by v) (lead_by w)) lo (hi - lo) d
          (λ t i j inside.
          let h : t < hi = omega arith in
          let number : w.product ≡ t = move_number spot (view_product b t) w (candidate_moves condition w (moves_by t) inside) in
          rw (in-month, by_product, number) (first w.month t i h (met_by w t h inside)))

      pub this_leads : met m p ≡ true → leading all ≡ Some (record { month = m; product = p })
      unfolding moves_of view_product
      this_leads met =
          let lead : Lead = record { month = m; product = p } in
          any_member (leading all ≡ Some lead) (is_of m) (candidates_by p) (has p m (omega arith) ∙ met)
          (λ v d is.
          let in-month = eqb-true v.month m is in
          let by_product : v.product ≡ p = move_number spot (view_product b p) v (candidate_moves condition v (moves_by p) d) in
          one_leads v all (among (candidates condition) (product_moves spot) (view_product b) v lo (hi - lo) p k (omega arith) d)
          (low v in-month by_product)
          ∙ ap₂ (λ (x y : ℕ). let n : Lead = record { month = x; product = y } in Some n) in-month by_product)
