-- Which contract leads: one of the candidates, where no other is ahead.
use Prim.Native.Nat.{ℕ, ◌≤◌, ◌<◌}
use mathlib.Core.Path.{◌≡◌, refl, sym, subst, ◌∙◌, ap, ap₂}
use mathlib.Core.Bool.{Bool, true, false, cond, ◌||◌}
use mathlib.Core.List.{List, [], ◌∷◌, ◌++◌}
use Rattle.std.specs.Prelude.{Option, Some, None, is_some}
use mathlib.Core.Logic.{◌⊎◌, inl, inr, ⊎_elim}
use native.Mathlib.Nat.{eq-or-lt_of_le}
use native.Mathlib.Omega.{arith}
use borrow.Author.Tests.{lt-ltb, le-ltb, eq-eqb, ne_eqb}
use Rattle.std.specs.List.{list_any}
use Rattle.record.specs.declared.Lead.{Lead}
use Rattle.record.specs.Choices.{keep, concat_map}
use Rattle.record.specs.Move.{Move}
use Rattle.record.specs.End.{is_ahead, ahead_of, leading}
use Rattle.ending.proofs.Members.{Member}

abbrev pub lead_by : Move → Lead
lead_by v = record { month = v.month; product = v.product }

-- contract l is not ahead of contract a
abbrev pub Behind : Lead → Lead → Type 0
Behind a l = (a.month < l.month) ⊎ ((a.month ≡ l.month) × (a.product ≤ l.product))

abbrev AllBehind : Lead → Option Lead → Type 0
AllBehind a None = Unit
AllBehind a (Some l) = Behind a l

module _ (a : Lead) where
  stays : (y : Option Lead) → AllBehind a y → ahead_of a y ≡ a
  stays None u = refl
  stays (Some l) u =
      ⊎_elim (λ h. rw (le-ltb l.month a.month (omega arith), ne_eqb l.month a.month (omega arith)))
      (λ w. rw (le-ltb l.month a.month (omega arith), eq-eqb l.month a.month (sym w.0), le-ltb l.product a.product w.1)) u

  either : (b : Bool) (x : Lead) → x ≡ a → cond b a x ≡ a
  either true x e = refl
  either false x e = e

  overtakes : (x : Lead) → Behind a x → ahead_of x (Some a) ≡ a
  overtakes x u =
      ⊎_elim (λ h. rw (lt-ltb a.month x.month h))
      (λ w. ⊎_elim
      (λ e. either (is_ahead a x) x (ap₂ (λ (m p : ℕ). let l : Lead = record { month = m; product = p } in l) (sym w.0) (sym e)))
      (λ h. rw (le-ltb a.month x.month (omega arith), eq-eqb a.month x.month w.0, lt-ltb a.product x.product h))
      (eq-or-lt_of_le w.1)) u

  one_behind : (b : Bool) (x y : Lead) → Behind a x → Behind a y → Behind a (cond b x y)
  one_behind true x y u v = u
  one_behind false x y u v = v

  ahead_behind : (x : Lead) (y : Option Lead) → Behind a x → AllBehind a y → Behind a (ahead_of x y)
  ahead_behind x None u v = u
  ahead_behind x (Some l) u v = one_behind (is_ahead l x) l x v u

-- ---- whether one leads
some_leads : (ms ns : List Move) → is_some (leading (ms ++ ns)) ≡ is_some (leading ms) || is_some (leading ns)
some_leads [] ns = refl
some_leads (v ∷ ms) ns = refl

module _ (g : Move → Bool) where
  kept_any : (ms : List Move) → is_some (leading (keep g ms)) ≡ list_any g ms
  kept_any [] = refl
  kept_any (v ∷ ms) = go (g v) refl (kept_any ms)
    where
      go : (x : Bool) → g v ≡ x → is_some (leading (keep g ms)) ≡ list_any g ms → is_some (leading (keep g (v ∷ ms))) ≡ list_any g (v ∷ ms)
      go true e later = rw e
      go false e later = rw (e, later)

  pub leading-any : (mss : List (List Move)) → is_some (leading (concat_map (keep g) mss)) ≡ list_any (list_any g) mss
  leading-any [] = refl
  leading-any (ms ∷ mss) = some_leads (keep g ms) (concat_map (keep g) mss) ∙ ap₂ ◌||◌ (kept_any ms) (leading-any mss)

-- ---- which leads
pub none-lead : (ms : List Move) → ((v : Move) → Member v ms → ⊥) → leading ms ≡ None
none-lead [] u = refl
none-lead (v ∷ ms) u = absurd (u v (inl refl))

module _ (v : Move) where
  -- all of a list are behind v
  abbrev Low : List Move → Type 0
  Low ms = (w : Move) → Member w ms → Behind (lead_by v) (lead_by w)

  behind : (ms : List Move) → Low ms → AllBehind (lead_by v) (leading ms)
  behind [] u = tt
  behind (w ∷ ms) u = ahead_behind (lead_by v) (lead_by w) (leading ms) (u w (inl refl)) (behind ms (λ x k. u x (inr k)))

  pub one_leads : (ms : List Move) → Member v ms → Low ms → leading ms ≡ Some (lead_by v)
  one_leads [] d u = absurd d
  one_leads (w ∷ ms) d u = go (λ k. one_leads ms k (λ x j. u x (inr j)))
    where
      go : (Member v ms → leading ms ≡ Some (lead_by v)) → leading (w ∷ ms) ≡ Some (lead_by v)
      go later =
          ⊎_elim
          (λ same.
          subst (λ (x : Move). leading (x ∷ ms) ≡ Some (lead_by v)) same
          (ap Some (stays (lead_by v) (leading ms) (behind ms (λ x j. u x (inr j))))))
          (λ k. rw (later k) (ap Some (overtakes (lead_by v) (lead_by w) (u w (inl refl))))) d
