-- The quick test of a sheet: what it has found of the contracts so far, if the months that are still to come do not go too far.
use Prim.Native.Nat.{ℕ, ◌+◌, ◌/◌, ◌%◌, ◌^◌, ◌<◌, ◌≤◌}
use mathlib.Core.Path.{◌≡◌, refl, sym, ◌∙◌}
use mathlib.Core.Bool.{true}
use mathlib.Core.List.{List, [], ◌∷◌}
use Rattle.std.specs.Prelude.{Some, None}
use Rattle.std.specs.List.{slice_get}
use native.Mathlib.Omega.{arith}
use lib.Dec.{eqb}
use lib.ListN.{length, drop, get_or}
use borrow.Author.Tests.{le-leb, eq-eqb}
use Rattle.grain.specs.Lists.{◌and◌, every, is_ascending}
use Rattle.grain.specs.Products.{is_traded}
use Rattle.grain.specs.Prices.{is_settlement}
use Rattle.grain.specs.Joined.{IsJoined}
use Rattle.record.specs.declared.Contract.{Contract}
use Rattle.sheets.specs.Sheets.{no_contract, are_sound_contracts}
use Rattle.sheets.proofs.InOneLoop.{sound_from, sound_start, sound_goes_on, sound_end}

pub none_sound : (p : ℕ) (cs : List Contract) → None ≡ slice_get cs 0 → are_sound_contracts p cs ≡ true
unfolding every is_ascending ◌and◌
none_sound p [] e = refl
none_sound p (c ∷ cs) e = cc

pub nearest_is : (cs : List Contract) (c : Contract) → Some c ≡ slice_get cs 0 → get_or cs 0 no_contract ≡ c
nearest_is [] c e = cc
nearest_is (d ∷ cs) c e = cc

starts : (p : ℕ) (cs : List Contract) (first : ℕ) → first ≡ (get_or cs 0 no_contract).month → sound_from p 0 cs ≡ sound_from p first cs
unfolding sound_from ◌and◌
starts p [] first e = refl
starts p (c ∷ cs) first e = rw (le-leb 0 c.month (omega arith), le-leb first c.month (omega (arith, e)))

module _ (p : ℕ) (cs : List Contract) where
  -- the first i settlements are on the tick
  abbrev pub Settled : ℕ → Type 0
  Settled i = (j : ℕ) → j < i → is_settlement p (get_or cs j no_contract).settlement ≡ true

  abbrev pub Joined : ℕ → ℕ → ℕ → Type 0
  Joined tick joined i = (j : ℕ) → j < i → IsJoined tick joined (get_or cs j no_contract).settlement

  -- of the first i contracts the months are right, if the next may still be one of the 48 from the first
  abbrev pub Left : ℕ → ℕ → ℕ → Type 0
  Left first from i = from ≤ first + 48 → Settled i → are_sound_contracts p cs ≡ sound_from p from (drop i cs)

  pub left_first : (first : ℕ) → first ≡ (get_or cs 0 no_contract).month → Left first first 0
  left_first first e near settled = sound_start p cs ∙ starts p cs first e

  -- `after` is the bit that was looked at, the month's own where the month is one of the 48
  pub left_next : (first from i traded after : ℕ) → i < length cs → first ≤ from → from ≤ (get_or cs i no_contract).month
      → ((d : ℕ) → d < 48 → eqb (traded / 2 ^ d % 2) 1 ≡ is_traded p (first + d))
      → ((get_or cs i no_contract).month < first + 48 → first + after ≡ (get_or cs i no_contract).month)
      → (traded / 2 ^ after % 2 ≡ 0 → ⊥)
      → Left first from i → Left first ((get_or cs i no_contract).month + 1) (i + 1)
  unfolding ◌and◌
  left_next first from i traded after h f l bits own bit left near settled =
      let m = (get_or cs i no_contract).month in
      let at : first + after ≡ m = own (omega (arith, near)) in
      let one : traded / 2 ^ after % 2 ≡ 1 = omega (arith, bit) in
      let is : is_traded p m ≡ true = rw at at (sym (bits after (omega (arith, near, at))) ∙ eq-eqb _ 1 one) in
      left (omega (arith, near, l)) (λ j k. settled j (omega (arith, k)))
      ∙ sound_goes_on cs i p from h (rw (le-leb from m l, is, settled i (omega arith)))

  pub left_end : (first from i : ℕ) → length cs ≤ i → from ≤ first + 48 → Settled i → Left first from i → are_sound_contracts p cs ≡ true
  left_end first from i h near settled left = left near settled ∙ sound_end cs i p from h
