-- What holds of every list of checks through one tally, proved for every call that keeps its contract.
use Prim.Native.Nat.{ℕ, ◌+◌}
use mathlib.Core.Path.{◌≡◌, refl, sym, ap, ◌∙◌}
use mathlib.Core.Bool.{Bool, true, false}
use mathlib.Core.List.{List, map}
use native.Mathlib.Omega.{arith}
use Rattle.std.specs.Prelude.{Some}
use Rattle.grain.specs.Refusals.{unsound}
use Rattle.tally.specs.declared.Tally.{Tally}
use Rattle.tally.specs.Tally.{tally_full, is_sound_tally, is_full, tally_refusal, counted}
use Rattle.tally.specs.Through.{TalliedCall, Through, done, asks, no_counts, tallied_answer, tally_after, answers_through, tally_through, Counts, Refusing, ThroughOneTally}
use Rattle.tally.proofs.Totals.{Lawful, totals}

from_zero : (k m : ℕ) → k ≡ 0 + m → k ≡ m
from_zero k m e = omega arith

unsound_refuses : (t : Tally) → is_sound_tally t ≡ false → tally_refusal t ≡ Some unsound
unfolding tally_refusal
unsound_refuses t e = rw e

full_refuses : (t : Tally) → is_sound_tally t ≡ true → is_full t ≡ true → tally_refusal t ≡ Some tally_full
unfolding tally_refusal
full_refuses t e f = rw (e, f)

module _ (k : TalliedCall) (law : Lawful k) where
  answered : {t z : Tally} {cs : List k.Ask} {rs : List k.Answer} → Through k t cs rs z → rs ≡ answers_through k t cs
  unfolding answers_through
  answered done = refl
  answered {t} (asks {u = u} {c = c} {r = r} p later) = rw (← (law.tally t c r u p)) (cc (law.answers t c r u p, answered later))

  after_is : {t z : Tally} {cs : List k.Ask} {rs : List k.Answer} → Through k t cs rs z → z ≡ tally_through k t cs
  unfolding tally_through
  after_is done = refl
  after_is {t} (asks {u = u} {c = c} {r = r} p later) = rw (← (law.tally t c r u p)) (after_is later)

  counts : (cs : List k.Ask) (rs : List k.Answer) (z : Tally) → Through k no_counts cs rs z → Counts k rs z
  unfolding is_sound_tally
  counts cs rs z p =
      let n = totals k law {t = no_counts} refl p in
      record {
        asked = from_zero z.asked _ n.asked;
        free = from_zero z.free _ n.free;
        within = from_zero z.within _ n.within;
        below = from_zero z.below _ n.below;
        above = from_zero z.above _ n.above;
        refused = from_zero z.refused _ n.refused;
      }

  -- a tally that refuses with a number
  refusing : (n : ℕ) {t z : Tally} {cs : List k.Ask} {rs : List k.Answer} → tally_refusal t ≡ Some n
      → Through k t cs rs z → Refusing k t n cs rs z
  unfolding tallied_answer tally_after counted
  refusing n e done = record { answers = refl; tally = refl }
  refusing n {t} e (asks {u = u} {c = c} {r = r} p later) =
      let same : u ≡ t = rw e at (law.tally t c r u p) in
      let number : r ≡ k.refused n = rw e at (law.answers t c r u p) in
      let rest = refusing n {t = u} (ap tally_refusal same ∙ e) later in
      record { answers = cc (number, rest.answers); tally = rest.tally ∙ same }

  by_full_lem : {t z : Tally} {cs : List k.Ask} {rs : List k.Answer} → is_sound_tally t ≡ true → is_full t ≡ true
      → Through k t cs rs z → Refusing k t tally_full cs rs z
  by_full_lem {t} s f p = refusing tally_full (full_refuses t s f) p

  -- a tally that is not full after a list was not full before it
  not_full_before : {t z : Tally} {cs : List k.Ask} {rs : List k.Answer} → is_sound_tally t ≡ true → is_full z ≡ false
      → Through k t cs rs z → is_full t ≡ false
  not_full_before {t} {z} s f p = go (is_full t) refl
    where
      go : (x : Bool) → is_full t ≡ x → x ≡ false
      go true e = sym e ∙ sym (ap is_full (by_full_lem s e p).tally) ∙ f
      go false e = refl

  answer-kept : (t : Tally) (c : k.Ask) → is_sound_tally t ≡ true → is_full t ≡ false → tallied_answer k t c ≡ k.answer_to c
  unfolding tallied_answer tally_refusal
  answer-kept t c s f = rw (s, f)

  until_full_lem : {t z : Tally} {cs : List k.Ask} {rs : List k.Answer} → is_sound_tally t ≡ true → is_full z ≡ false
      → Through k t cs rs z → rs ≡ map k.answer_to cs
  until_full_lem s f done = refl
  until_full_lem {t} s f (asks {u = u} {c = c} {r = r} p later) =
      let same : r ≡ k.answer_to c = law.answers t c r u p ∙ answer-kept t c s (not_full_before s f (asks p later)) in
      cc (same, until_full_lem (totals k law s (asks p done)).sound f later)

  pub through_one_tally : ThroughOneTally k
  through_one_tally =
      record {
        answers = λ t cs rs z p. answered p;
        tally = λ t cs rs z p. after_is p;
        counts = counts;
        stays_sound = λ t cs rs z s p. (totals k law s p).sound;
        until_full = λ t cs rs z s f p. until_full_lem s f p;
        by_unsound = λ t cs rs z e p. refusing unsound (unsound_refuses t e) p;
        by_full = λ t cs rs z e f p. by_full_lem e f p;
      }
