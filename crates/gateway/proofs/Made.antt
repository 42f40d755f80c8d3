-- An array made by a closure that keeps what it captured, of each element of another.
use Rattle.std.proofs.Common.{ℕ, zero, suc, ◌+◌, ◌<◌, ◌≤◌, ◌≡◌, refl, sym, ◌∙◌, ap, subst, List, ◌∷◌, length, drop, map, arith}
use Rattle.std.specs.Fn.{Mut, Called}
use Rattle.std.specs.Array.{IsMapOf, MapsFrom}
use native.Mathlib.Numerals.{add-one}
use lib.ListN.{drop_of_length-le}
use lib.Seq.{drop-cons}

module _ {F A B : Type 0} (g : Mut F (A × Unit {0}) B) (value : A → B) (f : F)
    (calls : (x : A) (y : B) (q : F) → Called g f (x, tt) y q → (q ≡ f) × (y ≡ value x)) where
  mapped_from : (xs : List A) (ys : List B) (i n : ℕ) (p : F) → p ≡ f → length xs ≡ i + n → length ys ≡ i + n → MapsFrom g p xs ys i n
      → drop i ys ≡ map value (drop i xs)
  mapped_from xs ys i zero p e long all h =
      let over : length xs ≤ i = omega arith in
      let past : length ys ≤ i = omega arith in
      rw (drop_of_length-le xs over) (drop_of_length-le ys past)
  mapped_from xs ys i (suc n) p e long all (q, x, y, from, here, called, more) =
      let one = calls x y q (subst (λ (s : F). Called g s (x, tt) y q) e called) in
      let within : i < length xs = omega arith in
      let inside : i < length ys = omega arith in
      let rest : length xs ≡ i + 1 + n = omega arith in
      let left : length ys ≡ i + 1 + n = omega arith in
      drop-cons ys i y inside
      ∙ ap (λ v. v ∷ drop (suc i) ys) (here.0 ∙ one.1)
      ∙ ap (λ r. value x ∷ r) (ap (λ m. drop m ys) (sym (add-one i)) ∙ mapped_from xs ys (i + 1) n q one.0 rest left more ∙ ap (λ m. map value (drop m xs)) (add-one i))
      ∙ ap (λ v. value v ∷ map value (drop (suc i) xs)) (sym from.0)
      ∙ ap (map value) (sym (drop-cons xs i x within))

  pub map_values : (xs : List A) (ys : List B) (n : ℕ) → length xs ≡ n → IsMapOf g f xs ys n → ys ≡ map value xs
  map_values xs ys n e r =
      let long : length xs ≡ 0 + n = omega arith in
      let all : length ys ≡ 0 + n = omega (arith, r.long) in
      mapped_from xs ys 0 n f refl long all r.each
