-- Checks through one tally, one after another, whatever is asked and answered; and what is shown of every list of them, in proofs/Proved.antt.
use Rattle.std.specs.Prelude.{ℕ, ◌+◌, ◌≡◌, Bool, true, false, not, cond, ◌&&◌, List, [], ◌∷◌, map, eqb, unwrap_or}
use Rattle.std.specs.Option.{option_map}
use Rattle.grain.specs.Refusals.{unsound}
use Rattle.tally.specs.declared.Tally.{Tally}
use Rattle.tally.specs.declared.kinds.Kind.{Kind}
use Rattle.tally.specs.declared.kinds.Kind.TheVariants.{Free, Within, Below, Above, Refused}
use Rattle.tally.specs.Tally.{tally_full, is_sound_tally, is_full, tally_refusal, counted}

-- a call that checks through a tally
pub record TalliedCall : Type 1 where
  -- what is asked, without the tally, and what is answered
  pub Ask : Type 0
  pub Answer : Type 0
  -- the answer without a tally
  pub answer_to : Ask → Answer
  -- what an answer is counted as
  pub kind_of : Answer → Kind
  -- the answer that is a refusal's number
  pub refused : ℕ → Answer
  -- the answer is 15, which is the tally's own
  pub is_tally_full : Answer → Bool
  -- what the call's contract says: the tally before, what is asked and answered, the tally after
  pub Promise : Tally → Ask → Answer → Tally → Type 0

-- It holds what the contract says, and nothing else: the tally before, the checks, their answers, the tally after.
pub data Through (k : TalliedCall) : Tally → List k.Ask → List k.Answer → Tally → Type 0 where
  done : {t : Tally} → Through k t [] [] t
  asks : {t u z : Tally} {c : k.Ask} {cs : List k.Ask} {r : k.Answer} {rs : List k.Answer}
      → k.Promise t c r u → Through k u cs rs z → Through k t (c ∷ cs) (r ∷ rs) z

abbrev pub no_counts : Tally
no_counts = record { asked = 0; free = 0; within = 0; below = 0; above = 0; refused = 0 }

module _ {A : Type 0} where
  -- the number of those that pass a test
  unfoldable pub how_many : (A → Bool) → List A → ℕ
  how_many f [] = 0
  how_many f (a ∷ l) = cond (f a) 1 0 + how_many f l

-- only to compare two kinds
abbrev pub kind_number : Kind → ℕ
kind_number Free = 0
kind_number Within = 1
kind_number Below = 2
kind_number Above = 3
kind_number Refused = 4

abbrev pub same_kind : Kind → Kind → Bool
same_kind j k = eqb (kind_number j) (kind_number k)

module _ (k : TalliedCall) where
  -- what a list of checks answers and leaves
  unfoldable pub tallied_answer : Tally → k.Ask → k.Answer
  tallied_answer t c = unwrap_or (option_map k.refused (tally_refusal t)) (k.answer_to c)

  unfoldable pub tally_after : Tally → k.Ask → Tally
  tally_after t c = counted t (k.kind_of (k.answer_to c))

  unfoldable pub answers_through : Tally → List k.Ask → List k.Answer
  answers_through t [] = []
  answers_through t (c ∷ cs) = tallied_answer t c ∷ answers_through (tally_after t c) cs

  unfoldable pub tally_through : Tally → List k.Ask → Tally
  tally_through t [] = t
  tally_through t (c ∷ cs) = tally_through (tally_after t c) cs

  abbrev pub is_counted : k.Answer → Bool
  is_counted a = not (k.is_tally_full a)

  abbrev pub is_of : Kind → k.Answer → Bool
  is_of j a = is_counted a && same_kind j (k.kind_of a)

  -- each count is the number of the answers of its kind
  pub record Counts (rs : List k.Answer) (z : Tally) : Type 0 where
    pub asked : z.asked ≡ how_many is_counted rs
    pub free : z.free ≡ how_many (is_of Free) rs
    pub within : z.within ≡ how_many (is_of Within) rs
    pub below : z.below ≡ how_many (is_of Below) rs
    pub above : z.above ≡ how_many (is_of Above) rs
    pub refused : z.refused ≡ how_many (is_of Refused) rs

  -- a tally that refuses: every answer is the number, and the tally stays as it is
  pub record Refusing (t : Tally) (n : ℕ) (cs : List k.Ask) (rs : List k.Answer) (z : Tally) : Type 0 where
    pub answers : rs ≡ map (λ c. k.refused n) cs
    pub tally : z ≡ t

  pub record ThroughOneTally : Type 0 where
    -- every answer and the tally are fixed by what is asked and the tally before
    pub answers : (t : Tally) (cs : List k.Ask) (rs : List k.Answer) (z : Tally) → Through k t cs rs z → rs ≡ answers_through t cs
    pub tally : (t : Tally) (cs : List k.Ask) (rs : List k.Answer) (z : Tally) → Through k t cs rs z → z ≡ tally_through t cs
    -- a tally that began with six zeros
    pub counts : (cs : List k.Ask) (rs : List k.Answer) (z : Tally) → Through k no_counts cs rs z → Counts rs z
    pub stays_sound : (t : Tally) (cs : List k.Ask) (rs : List k.Answer) (z : Tally) → is_sound_tally t ≡ true
        → Through k t cs rs z → is_sound_tally z ≡ true
    -- until a sound tally is full, each check is answered as without a tally
    pub until_full : (t : Tally) (cs : List k.Ask) (rs : List k.Answer) (z : Tally) → is_sound_tally t ≡ true → is_full z ≡ false
        → Through k t cs rs z → rs ≡ map k.answer_to cs
    -- 1 before 15
    pub by_unsound : (t : Tally) (cs : List k.Ask) (rs : List k.Answer) (z : Tally) → is_sound_tally t ≡ false
        → Through k t cs rs z → Refusing t unsound cs rs z
    pub by_full : (t : Tally) (cs : List k.Ask) (rs : List k.Answer) (z : Tally) → is_sound_tally t ≡ true → is_full t ≡ true
        → Through k t cs rs z → Refusing t tally_full cs rs z
