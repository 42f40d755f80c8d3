-- A test that each of a list passes: of a joined list, of a list of lists, of two tests at once, and of two that answer the same.
use mathlib.Core.Path.{◌≡◌, refl, sym, ◌∙◌, ap, ap₂}
use mathlib.Core.Bool.{Bool, true, false}
use mathlib.Core.List.{List, [], ◌∷◌, ◌++◌}
use Rattle.grain.specs.Lists.{◌and◌, every}
use Rattle.record.specs.Choices.{concat_map}

pub and_assoc : (a b c : Bool) → (a and b) and c ≡ a and (b and c)
unfolding ◌and◌
and_assoc true b c = refl
and_assoc false b c = refl

and_swap : (a b c d : Bool) → (a and b) and (c and d) ≡ (a and c) and (b and d)
unfolding ◌and◌
and_swap true true c d = refl
and_swap true false true d = refl
and_swap true false false d = refl
and_swap false b c d = refl

module _ {A : Type 0} (f : A → Bool) where
  every_joined : (l m : List A) → every f (l ++ m) ≡ every f l and every f m
  unfolding every ◌and◌
  every_joined [] m = refl
  every_joined (x ∷ l) m = ap (f x and◌) (every_joined l m) ∙ sym (and_assoc (f x) (every f l) (every f m))

  pub every_same : (h : A → Bool) → ((x : A) → f x ≡ h x) → (l : List A) → every f l ≡ every h l
  unfolding every
  every_same h e [] = refl
  every_same h e (x ∷ l) = ap₂ ◌and◌ (e x) (every_same h e l)

  pub every_both : (h : A → Bool) (l : List A) → every (λ x. f x and h x) l ≡ every f l and every h l
  unfolding every ◌and◌
  every_both h [] = refl
  every_both h (x ∷ l) =
      ap ((f x and h x) and◌) (every_both h l) ∙ and_swap (f x) (h x) (every f l) (every h l)

module _ {A B : Type 0} (f : B → Bool) (k : A → List B) where
  pub every_concat : (l : List A) → every (λ x. every f (k x)) l ≡ every f (concat_map k l)
  unfolding every
  every_concat [] = refl
  every_concat (x ∷ l) = ap (every f (k x) and◌) (every_concat l) ∙ sym (every_joined f (k x) (concat_map k l))
