-- An array of defaults is its default, repeated.
use Rattle.std.proofs.Common.{◌≡◌, sym, ◌∙◌, ℕ, List}
use Rattle.std.specs.Prelude.{replicate}
use Rattle.std.specs.Array.{AllOfLen}
use Rattle.std.proofs.lemmas.List.{same_lists, length-replicate, get_or-replicate}

pub all_are : {A : Type 0} {P : A → Type 0} (a : A) → ((x : A) → P x → x ≡ a) → (n : ℕ) (xs : List A) → AllOfLen P xs n → xs ≡ replicate n a
all_are a only n xs all =
    same_lists xs (replicate n a) (all.long ∙ sym (length-replicate n a))
    (λ k d l. let small = rw all.long at l in only _ (all.at k d small) ∙ sym (get_or-replicate n k a d small))
