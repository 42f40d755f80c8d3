-- A tally: when it refuses a check, and what it is after one that it takes.
use Rattle.std.specs.Prelude.{ℕ, ◌+◌, ◌≡◌, Bool, not, cond, eqb, Option, Some, None, is_some, Result, Ok, Err}
use Rattle.grain.specs.Refusals.{unsound, number_of}
pub use Rattle.grain.specs.Refusals.{tally_full}
use Rattle.grain.specs.declared.refusals.Refusal.{Refusal}
use Rattle.grain.specs.declared.check.Verdict.{Verdict}
use Rattle.grain.specs.declared.check.Verdict.TheVariants as verdict
use Rattle.tally.specs.declared.Tally.{Tally}
use Rattle.tally.specs.declared.kinds.Kind.{Kind}
use Rattle.tally.specs.declared.kinds.Kind.TheVariants.{Free, Within, Below, Above, Refused}

-- of natural numbers: it does not wrap
abbrev pub sum_of : Tally → ℕ
sum_of t = t.free + t.within + t.below + t.above + t.refused

unfoldable pub is_sound_tally : Tally → Bool
is_sound_tally t = eqb t.asked (sum_of t)

unfoldable pub is_full : Tally → Bool
is_full t = eqb t.asked 4294967295

-- the number with which a tally refuses every check, 1 before 15; none where it takes one more
unfoldable pub tally_refusal : Tally → Option ℕ
tally_refusal t = cond (not (is_sound_tally t)) (Some unsound) (cond (is_full t) (Some tally_full) None)

abbrev pub takes : Tally → Bool
takes t = not (is_some (tally_refusal t))

-- the result is the refusal with this number
abbrev pub IsRefusedWith : ℕ → Result Verdict Refusal → Type 0
IsRefusedWith n (Ok v) = ⊥
IsRefusedWith n (Err r) = number_of r ≡ n

abbrev pub kind_of_verdict : Verdict → Kind
kind_of_verdict verdict.Free = Free
kind_of_verdict (verdict.Within s) = Within
kind_of_verdict (verdict.Below s) = Below
kind_of_verdict (verdict.Above s) = Above

-- what an answer is counted as
abbrev pub kind_of : Result Verdict Refusal → Kind
kind_of (Ok v) = kind_of_verdict v
kind_of (Err r) = Refused

-- one more asked, and one more of the kind
abbrev pub one_more : Tally → Kind → Tally
one_more t Free = record t { asked = t.asked + 1; free = t.free + 1 }
one_more t Within = record t { asked = t.asked + 1; within = t.within + 1 }
one_more t Below = record t { asked = t.asked + 1; below = t.below + 1 }
one_more t Above = record t { asked = t.asked + 1; above = t.above + 1 }
one_more t Refused = record t { asked = t.asked + 1; refused = t.refused + 1 }

-- a tally that refuses stays as it is
unfoldable pub counted : Tally → Kind → Tally
counted t k = cond (takes t) (one_more t k) t
