-- The three tests of a sheet in one loop: what is left of the contracts is tested from the least month that the next may have.
use Rattle.std.proofs.Common.{◌≡◌, refl, ◌∙◌, ap, ℕ, ◌+◌, ◌<◌, ◌≤◌, Bool, true, false, ◌&&◌, List, [], ◌∷◌, length, drop, get_or, leb, add-one}
use lib.Dec.{leb-zero}
use Rattle.std.proofs.Math.Seq.{drop-cons}
use lib.ListN.{drop_of_length-le}
use Rattle.grain.specs.Lists.{◌and◌, every, is_ascending}
use Rattle.grain.specs.Products.{is_traded}
use Rattle.grain.specs.Prices.{is_settlement}
use Rattle.record.specs.declared.Contract.{Contract}
use Rattle.sheets.specs.Sheets.{no_contract, are_sound_contracts}

abbrev is_sound_contract : ℕ → ℕ → Contract → Bool
is_sound_contract p from c = leb from c.month and is_traded p c.month and is_settlement p c.settlement

-- the first month is not before `from`
abbrev first_from : ℕ → List Contract → Bool
first_from from [] = true
first_from from (c ∷ cs) = leb from c.month

unfoldable pub sound_from : ℕ → ℕ → List Contract → Bool
sound_from p from cs = first_from from cs and are_sound_contracts p cs

-- from test after test over a contract and those after it, to that contract's three tests before all the others'
regroup : (first next rise traded others settled rest : Bool)
    → (first and ((next && rise) and (traded and others) and (settled and rest)))
    ≡ (first and traded and settled and (next and (rise and others and rest)))
unfolding ◌and◌
regroup false next rise traded others settled rest = refl
regroup true false rise false others settled rest = refl
regroup true false rise true others false rest = refl
regroup true false rise true others true rest = refl
regroup true true false false others settled rest = refl
regroup true true false true others false rest = refl
regroup true true false true others true rest = refl
regroup true true true false others settled rest = refl
regroup true true true true false false rest = refl
regroup true true true true false true rest = refl
regroup true true true true true settled rest = refl

sound_cons : (p from : ℕ) (c : Contract) (cs : List Contract)
    → sound_from p from (c ∷ cs) ≡ (is_sound_contract p from c and sound_from p (c.month + 1) cs)
unfolding sound_from every is_ascending
sound_cons p from c [] = regroup (leb from c.month) true true (is_traded p c.month) true (is_settlement p c.settlement) true
sound_cons p from c (d ∷ cs) = rw add-one (regroup (leb from c.month) _ _ (is_traded p c.month) _ (is_settlement p c.settlement) _)

-- no month is before 0
pub sound_start : (p : ℕ) (cs : List Contract) → are_sound_contracts p cs ≡ sound_from p 0 cs
unfolding sound_from ◌and◌
sound_start p [] = refl
sound_start p (c ∷ cs) = rw (leb-zero c.month)

drop-next : (cs : List Contract) (i : ℕ) (d : Contract) → i < length cs → drop i cs ≡ get_or cs i d ∷ drop (i + 1) cs
drop-next cs i d h = rw add-one (drop-cons cs i d h)

module _ (cs : List Contract) (i p from : ℕ) where
  sound_next : i < length cs → sound_from p from (drop i cs)
      ≡ (is_sound_contract p from (get_or cs i no_contract) and sound_from p ((get_or cs i no_contract).month + 1) (drop (i + 1) cs))
  sound_next h = ap (sound_from p from) (drop-next cs i no_contract h) ∙ sound_cons p from _ _

  pub sound_fails : i < length cs → is_sound_contract p from (get_or cs i no_contract) ≡ false → sound_from p from (drop i cs) ≡ false
  unfolding ◌and◌
  sound_fails h fails = sound_next h ∙ rw fails

  pub sound_goes_on : i < length cs → is_sound_contract p from (get_or cs i no_contract) ≡ true
      → sound_from p from (drop i cs) ≡ sound_from p ((get_or cs i no_contract).month + 1) (drop (i + 1) cs)
  unfolding ◌and◌
  sound_goes_on h passes = sound_next h ∙ rw passes

  pub sound_end : length cs ≤ i → sound_from p from (drop i cs) ≡ true
  unfolding sound_from ◌and◌ every is_ascending
  sound_end h = ap (sound_from p from) (drop_of_length-le cs h)
