-- What checks through a sound tally add to each of its counts.
use Prim.Native.Nat.{ℕ, ◌+◌}
use mathlib.Core.Path.{◌≡◌, refl}
use mathlib.Core.Bool.{Bool, true, false, cond, ◌&&◌}
use mathlib.Core.List.{List, ◌∷◌}
use native.Mathlib.Omega.{arith}
use borrow.Author.Tests.{eqb-true, eq-eqb}
use Rattle.std.specs.Prelude.{Some, None, is_some, not, unwrap_or}
use Rattle.std.specs.Option.{option_map}
use Rattle.tally.specs.declared.Tally.{Tally}
use Rattle.tally.specs.declared.kinds.Kind.{Kind}
use Rattle.tally.specs.declared.kinds.Kind.TheVariants.{Free, Within, Below, Above, Refused}
use Rattle.tally.specs.Tally.{tally_full, sum_of, is_sound_tally, is_full, tally_refusal, one_more, counted}
use Rattle.tally.specs.Through.{TalliedCall, Through, done, asks, how_many, same_kind, tallied_answer, tally_after, is_counted, is_of}

-- what the theorem asks of a call: its contract, and that no check answers 15 by itself
pub record Lawful (k : TalliedCall) : Type 0 where
  pub answers : (t : Tally) (c : k.Ask) (r : k.Answer) (u : Tally) → k.Promise t c r u → r ≡ tallied_answer k t c
  pub tally : (t : Tally) (c : k.Ask) (r : k.Answer) (u : Tally) → k.Promise t c r u → u ≡ tally_after k t c
  pub not_full : (c : k.Ask) → k.is_tally_full (k.answer_to c) ≡ false
  pub says_full : k.is_tally_full (k.refused tally_full) ≡ true

-- what one answer adds: where it is counted, to asked and to its kind
abbrev one : Bool → ℕ
one b = cond b 1 0

record Adds (t : Tally) (c : Bool) (k : Kind) (u : Tally) : Type 0 where
  pub asked : u.asked ≡ t.asked + one c
  pub free : u.free ≡ t.free + one (c && same_kind Free k)
  pub within : u.within ≡ t.within + one (c && same_kind Within k)
  pub below : u.below ≡ t.below + one (c && same_kind Below k)
  pub above : u.above ≡ t.above + one (c && same_kind Above k)
  pub refused : u.refused ≡ t.refused + one (c && same_kind Refused k)

adds_one : (t : Tally) (k : Kind) → Adds t true k (one_more t k)
adds_one t Free = record { asked = refl; free = refl; within = omega arith; below = omega arith; above = omega arith; refused = omega arith }
adds_one t Within = record { asked = refl; free = omega arith; within = refl; below = omega arith; above = omega arith; refused = omega arith }
adds_one t Below = record { asked = refl; free = omega arith; within = omega arith; below = refl; above = omega arith; refused = omega arith }
adds_one t Above = record { asked = refl; free = omega arith; within = omega arith; below = omega arith; above = refl; refused = omega arith }
adds_one t Refused = record { asked = refl; free = omega arith; within = omega arith; below = omega arith; above = omega arith; refused = refl }

adds_none : (t : Tally) (k : Kind) → Adds t false k t
adds_none t k = record { asked = omega arith; free = omega arith; within = omega arith; below = omega arith; above = omega arith; refused = omega arith }

one_sound : (t : Tally) (k : Kind) → t.asked ≡ sum_of t → (one_more t k).asked ≡ sum_of (one_more t k)
one_sound t Free e = omega arith
one_sound t Within e = omega arith
one_sound t Below e = omega arith
one_sound t Above e = omega arith
one_sound t Refused e = omega arith

after_one : (n m k i j : ℕ) → m ≡ n + i → k ≡ m + j → k ≡ n + (i + j)
after_one n m k i j e f = omega arith

module _ (k : TalliedCall) (law : Lawful k) where
  -- what one check through a sound tally adds, and that the tally stays sound
  record Added (t : Tally) (a : k.Answer) (u : Tally) : Type 0 where
    pub adds : Adds t (is_counted k a) (k.kind_of a) u
    pub sound : u.asked ≡ sum_of u

  added : (t : Tally) (c : k.Ask) → is_sound_tally t ≡ true → Added t (tallied_answer k t c) (tally_after k t c)
  unfolding tallied_answer tally_after counted tally_refusal is_sound_tally
  added t c s = rw s (go (is_full t))
    where
      sum : t.asked ≡ sum_of t
      sum = eqb-true t.asked (sum_of t) s

      go : (f : Bool)
          → Added t (unwrap_or (option_map k.refused (cond f (Some tally_full) None)) (k.answer_to c))
          (cond (not (is_some (cond f (Some tally_full) None))) (one_more t (k.kind_of (k.answer_to c))) t)
      go true = record { adds = rw law.says_full (adds_none t (k.kind_of (k.refused tally_full))); sound = sum }
      go false = record { adds = rw (law.not_full c) (adds_one t (k.kind_of (k.answer_to c))); sound = one_sound t (k.kind_of (k.answer_to c)) sum }

  -- what a list of answers adds
  pub record Totals (t : Tally) (rs : List k.Answer) (z : Tally) : Type 0 where
    pub asked : z.asked ≡ t.asked + how_many (is_counted k) rs
    pub free : z.free ≡ t.free + how_many (is_of k Free) rs
    pub within : z.within ≡ t.within + how_many (is_of k Within) rs
    pub below : z.below ≡ t.below + how_many (is_of k Below) rs
    pub above : z.above ≡ t.above + how_many (is_of k Above) rs
    pub refused : z.refused ≡ t.refused + how_many (is_of k Refused) rs
    pub sound : is_sound_tally z ≡ true

  one_more_of : {t u z : Tally} {a : k.Answer} {rs : List k.Answer} → Added t a u → Totals u rs z → Totals t (a ∷ rs) z
  unfolding how_many
  one_more_of {t} {u} {z} {a} {rs} d n =
      record {
        asked = after_one t.asked u.asked z.asked _ _ d.adds.asked n.asked;
        free = after_one t.free u.free z.free _ _ d.adds.free n.free;
        within = after_one t.within u.within z.within _ _ d.adds.within n.within;
        below = after_one t.below u.below z.below _ _ d.adds.below n.below;
        above = after_one t.above u.above z.above _ _ d.adds.above n.above;
        refused = after_one t.refused u.refused z.refused _ _ d.adds.refused n.refused;
        sound = n.sound;
      }

  pub totals : {t z : Tally} {cs : List k.Ask} {rs : List k.Answer} → is_sound_tally t ≡ true → Through k t cs rs z → Totals t rs z
  unfolding how_many is_sound_tally
  totals s done =
      record { asked = omega arith; free = omega arith; within = omega arith; below = omega arith; above = omega arith; refused = omega arith; sound = s }
  totals {t} s (asks {u = u} {c = c} {r = r} p later) =
      let d : Added t r u = rw (law.answers t c r u p, law.tally t c r u p) (added t c s) in
      one_more_of d (totals (eq-eqb _ _ d.sound) later)
