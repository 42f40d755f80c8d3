-- The first 369 bytes of an input decide its line, so `season` reads no more.
use Prim.Native.Nat.{ℕ, ◌<◌, ◌≤◌}
use mathlib.Core.Path.{◌≡◌, refl, sym, ◌∙◌, ap, subst}
use mathlib.Core.Bool.{Bool, true, false}
use mathlib.Core.List.{List, ◌++◌, append-nil}
use native.Mathlib.Omega.{arith}
use lib.Dec.{ltb}
use lib.ListN.{length, take, length-take}
use lib.Seq.{take_all, take-append-le}
use borrow.Author.Tests.{ltb-true, ltb-false}
use Rattle.std.specs.Prelude.{None, Some, IfSome, Ok, Err, OnOk}
use Rattle.std.specs.declared.option.Option.{Option}
use Rattle.std.specs.declared.result.Result.{Result}
use Rattle.std.specs.Io.KnownBytes.{Appends, Consumes, IsAtEnd}
use Rattle.season.specs.LineText.{line_text}
use Rattle.season.specs.SeasonFile.{season_line}
use Rattle.grain.specs.Margin.{refused}
use Rattle.season.proofs.Shape.{misshapen_unless}

refused_long : (file : List ℕ) → 368 < length file → season_line file ≡ refused 6
unfolding season_line
refused_long file l = rw (misshapen_unless file (λ shape. let long = shape.0 in omega arith))

pub first_bytes_decide : (file : List ℕ) → season_line (take 369 file) ≡ season_line file
first_bytes_decide file = go (ltb 368 (length file)) refl
  where
    go : (b : Bool) → ltb 368 (length file) ≡ b → season_line (take 369 file) ≡ season_line file
    go true e =
        let l : 368 < length file = ltb-true _ _ e in
        let h : 368 < length (take 369 file) = rw (length-take 369 file) (omega arith) in
        refused_long (take 369 file) h ∙ sym (refused_long file l)
    go false e =
        let l : length file ≤ 369 = omega (arith, ltb-false 368 (length file) e) in
        ap season_line (take_all 369 file l)

-- what was read of an input decides its line, where it is all of it or 369 bytes
pub read_decides : (old new : Option (List ℕ)) (read : List ℕ) → length read ≤ 369 → Consumes old new read
    → (length read < 369 → IsAtEnd new) → IfSome old (λ file. season_line read ≡ season_line file)
read_decides None new read l h end = tt
read_decides (Some file) None read l h end = absurd h
read_decides (Some file) (Some rest) read l h end = go (ltb (length read) 369) refl
  where
    go : (b : Bool) → ltb (length read) 369 ≡ b → season_line read ≡ season_line file
    go true e = ap season_line (sym (h ∙ ap (λ l. read ++ l) (end (ltb-true _ _ e)) ∙ append-nil read))
    go false e =
        let full : length read ≡ 369 = omega (arith, ltb-false _ _ e) in
        let first : take 369 file ≡ read =
        ap (take 369) h ∙ take-append-le 369 read rest (omega arith) ∙ take_all 369 read (omega arith) in
        ap season_line (sym first) ∙ first_bytes_decide file

-- a line that is written for what was read is the line of the whole input
pub written_for_all : {T E : Type 0} (r : Result T E) (old before after : Option (List ℕ)) (read text : List ℕ)
    → OnOk r (Appends before after text) → text ≡ line_text (season_line read)
    → IfSome old (λ file. season_line read ≡ season_line file)
    → OnOk r (IfSome old (λ file. Appends before after (line_text (season_line file))))
written_for_all (Ok x) None before after read text w e d = tt
written_for_all (Ok x) (Some file) before after read text w e d = subst (Appends before after) (e ∙ ap line_text d) w
written_for_all (Err x) old before after read text w e d = tt
