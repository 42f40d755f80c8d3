-- A sheet that is plainly after the last ended one: what the quick test has found of the contracts so far.
use Prim.Native.Nat.{ℕ, suc, ◌+◌, ◌<◌, ◌≤◌}
use mathlib.Core.Path.{◌≡◌}
use mathlib.Core.List.{List, [], ◌∷◌}
use native.Mathlib.Omega.{arith}
use lib.ListN.{length, get_or}
use borrow.Author.Count.{below_more}
use Rattle.std.specs.List.{AllZip}
use Rattle.grain.specs.Lists.{distance}
use Rattle.record.specs.declared.Contract.{Contract}
use Rattle.sheets.specs.Sheets.{no_contract}
use Rattle.filing.specs.Plain.{IsPlainlyAfter, PlainlyAfter}
use Rattle.sheets.proofs.Plain.{Settled}

-- the first i contracts have the earlier ones' months, and are at most the limit from them
abbrev pub Near : ℕ → List Contract → List Contract → ℕ → Type 0
Near limit earlier cs i =
    (j : ℕ) → j < i → ((get_or cs j no_contract).month ≡ (get_or earlier j no_contract).month)
    × (distance (get_or cs j no_contract).settlement (get_or earlier j no_contract).settlement ≤ limit)

pub near_next : (limit : ℕ) (earlier cs : List Contract) (i : ℕ) (before c : Contract) → before ≡ get_or earlier i no_contract → c ≡ get_or cs i no_contract
    → Near limit earlier cs i → c.month ≡ before.month → distance c.settlement before.settlement ≤ limit → Near limit earlier cs (i + 1)
near_next limit earlier cs i before c b e near month moved = below_more _ i near (rw (b, e) at month, rw (b, e) at moved)

in_each_place : (R : Contract → Contract → Type 0) (xs ys : List Contract) → length xs ≡ length ys
    → ((j : ℕ) → j < length ys → R (get_or xs j no_contract) (get_or ys j no_contract)) → AllZip R xs ys
in_each_place R [] [] e h = tt
in_each_place R [] (y ∷ ys) e h = absurd (omega arith)
in_each_place R (x ∷ xs) [] e h = absurd (omega arith)
in_each_place R (x ∷ xs) (y ∷ ys) e h = (h 0 (omega arith), in_each_place R xs ys (omega arith) (λ j k. h (suc j) (omega (arith, k))))

pub all_near : (p limit : ℕ) (earlier cs : List Contract) (i : ℕ) → length earlier ≡ length cs → length cs ≤ i → Near limit earlier cs i
    → Settled p cs i → PlainlyAfter p limit earlier cs
all_near p limit earlier cs i e l near settled =
    in_each_place (IsPlainlyAfter p limit) earlier cs e
    (λ j k. record {
      month = (near j (omega (arith, k, l))).0;
      settled = settled j (omega (arith, k, l));
      near = (near j (omega (arith, k, l))).1;
    })
