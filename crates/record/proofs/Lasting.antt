-- What every accepted change keeps, every call keeps, and every list of calls.
use Prim.Native.Nat.{ℕ}
use mathlib.Core.Path.{◌≡◌, refl}
use mathlib.Core.List.{List, [], ◌∷◌}
use Rattle.std.specs.Prelude.{Option, Some, None}
use Rattle.record.specs.State.{Record}
use Rattle.record.specs.Record.{Change, Call, change, question, refusal, next, next_by, respond, state_after}

module _ (P : Record → Type 0) (keeps : (r : Record) (c : Change) → refusal r (change c) ≡ None → P r → P (next r c)) where
  pub call_keeps : (r : Record) (c : Call) → P r → P (respond r c).state
  unfolding respond
  call_keeps r (change c) p = go (refusal r (change c)) refl
    where
      go : (o : Option ℕ) → refusal r (change c) ≡ o → P (next_by o r c)
      go (Some n) e = p
      go None e = keeps r c e p
  call_keeps r (question q) p = p

  pub list_keeps : (r : Record) (cs : List Call) → P r → P (state_after r cs)
  unfolding state_after
  list_keeps r [] p = p
  list_keeps r (c ∷ cs) p = list_keeps (respond r c).state cs (call_keeps r c p)
