-- What an accepted check rests on: a settlement and a limit that are its product's.
use Prim.Native.Nat.{ℕ, zero, suc}
use mathlib.Core.Path.{◌≡◌, refl}
use mathlib.Core.Bool.{Bool, true, false, cond}
use mathlib.Core.List.{List, [], ◌∷◌, map}
use Rattle.std.specs.Prelude.{Option, Some, None}
use lib.Dec.{ltb, eqb}
use lib.ListN.{get_or}
use borrow.Author.Tests.{eqb-true}
use Rattle.grain.specs.Lists.{◌and◌, every}
use Rattle.grain.specs.Prices.{is_settlement}
use Rattle.grain.specs.Amounts.{is_fit_amount}
use Rattle.grain.specs.declared.spot.TradeDate.{TradeDate}
use Rattle.grain.proofs.Tests.{and_left, and_right}
use Rattle.grain.proofs.Fits.{expanded_fit}
use Rattle.record.specs.State.{Contract, Sheet, Level, initial, expanded, Product, Group, Record, group_of, group_at, no_group, find, product_in, limit_at, todays_limit, sheet_or, settlement_on}
use Rattle.record.specs.Check.{listed}
use Rattle.record.specs.Sound.{is_sound_product, is_sound_group, is_sound}
use Rattle.record.proofs.SoundProducts.{Limits, facts}
use Rattle.record.proofs.SoundSheets.{sheet_settlements}

-- a settlement on a sheet whose settlements all are settlements of the product
settled_on : (p month x : ℕ) (s : Sheet) → every (is_settlement p) (map (λ (c : Contract). c.settlement) s) ≡ true
    → settlement_on s month ≡ Some x → is_settlement p x ≡ true
unfolding every
settled_on p month x [] t e = cc
settled_on p month x (c ∷ s) t e = go (eqb c.month month) (settled_on p month x s (and_right _ _ t)) e
  where
    go : (b : Bool) → (settlement_on s month ≡ Some x → is_settlement p x ≡ true)
        → cond b (Some c.settlement) (settlement_on s month) ≡ Some x → is_settlement p x ≡ true
    go true later h = let is : c.settlement ≡ x = cc in rw (← is) (and_left _ _ t)
    go false later h = later h

-- a product that has a sheet is one of the group's, and is found by its number
record Found (p : ℕ) (q : Product) : Type 0 where
  sound : is_sound_product q ≡ true
  number : q.number ≡ p

found_in : (p : ℕ) (l : List Product) (s : Sheet) → every is_sound_product l ≡ true → (find p l).last ≡ Some s → Found p (find p l)
unfolding every
found_in p [] s t e = let z : ◌≡◌ {A = Option Sheet} None (Some s) = e in record { sound = cc; number = cc }
found_in p (q ∷ l) s t e = go (eqb q.number p) refl (found_in p l s (and_right _ _ t)) e
  where
    go : (b : Bool) → eqb q.number p ≡ b → ((find p l).last ≡ Some s → Found p (find p l))
        → (cond b q (find p l)).last ≡ Some s → Found p (cond b q (find p l))
    go true f later h = record { sound = and_left _ _ t; number = eqb-true _ _ f }
    go false f later h = later h

no_group_sound : (edition : ℕ) → is_sound_group edition no_group ≡ true
unfolding every is_sound_group ◌and◌
no_group_sound edition = refl

group_sound : (edition : ℕ) (gs : List Group) (k : ℕ) → every (is_sound_group edition) gs ≡ true
    → is_sound_group edition (get_or gs k no_group) ≡ true
unfolding every
group_sound edition [] k t = no_group_sound edition
group_sound edition (g ∷ gs) zero t = and_left _ _ t
group_sound edition (g ∷ gs) (suc k) t = group_sound edition gs k (and_right _ _ t)

-- I and E of a product are fit amounts
fit_at : (l : Level) (n i e : ℕ) → Limits n i e → is_fit_amount n (limit_at l i e) ≡ true
fit_at initial n i e f = f.fit
fit_at expanded n i e f = rw f.expanded (expanded_fit n i f.fit)

module _ (r : Record) (sound : is_sound r ≡ true) (p : ℕ) where
  products_sound : every is_sound_product (group_at r (group_of p)).products ≡ true
  unfolding is_sound is_sound_group
  products_sound = and_right _ _ (group_sound r.common.edition r.groups (group_of p) (and_right _ _ (and_left _ _ (and_left _ _ sound))))

  pub record Rests (x : ℕ) : Type 0 where
    pub settled : is_settlement p x ≡ true
    pub fit : is_fit_amount p (todays_limit (group_at r (group_of p)) p) ≡ true

  rests_on : (x month : ℕ) (o : Option Sheet) → (product_in (group_at r (group_of p)) p).last ≡ o
      → settlement_on (sheet_or o) month ≡ Some x → Rests x
  rests_on x month None e h = let z : ◌≡◌ {A = Option ℕ} None (Some x) = h in record { settled = cc; fit = cc }
  rests_on x month (Some s) e h =
      let found = found_in p (group_at r (group_of p)).products s products_sound e in
      let f = facts _ found.sound in
      let last = sheet_settlements _ _ f.last in
      record {
        settled = settled_on p month x s (rw (found.number, e) at last) h;
        fit = rw found.number at (fit_at (group_at r (group_of p)).level _ _ _ f.limits);
      }

  pub rests : (date : TradeDate) (month x : ℕ) → listed date (sheet_or (product_in (group_at r (group_of p)) p).last) month ≡ Some x → Rests x
  rests date month x e = go (ltb month date.month) e
    where
      go : (b : Bool) → cond b None (settlement_on (sheet_or (product_in (group_at r (group_of p)) p).last) month) ≡ Some x → Rests x
      go true h = let z : ◌≡◌ {A = Option ℕ} None (Some x) = h in record { settled = cc; fit = cc }
      go false h = rests_on x month (product_in (group_at r (group_of p)) p).last refl h
