-- A read puts its bytes behind those that are there.
use Rattle.std.proofs.Common.{rules, ℕ, ◌≡◌, ◌+◌, ◌-◌, ◌≤◌, List, ◌++◌, length, take, drop, sym, ap, ◌∙◌, subst, le_refl, drop_at, length-take-le}
use Rattle.std.proofs.lemmas.Slice.{take-put_mid_below}
use Rattle.std.specs.Io.KnownBytes.{Consumes}
use Rattle.std.proofs.KnownBytes.{Consumes-trans}
use borrow.Rule.Slice.PartMut.{put_mid, post_of}
use lib.Seq.{take-add, take-append-le}
use Rattle.season.proofs.read_full.Goals as goal

-- the bytes put in from a on, up to the n-th
put_in : (a k n : ℕ) (xs ys : List ℕ) → a ≤ length xs → n ≤ length ys
    → take a xs ++ take n ys ≡ take (a + n) (put_mid a k xs ys)
put_in a k n xs ys within fits =
    let all = put_mid a k xs ys in
    let after = post_of a k xs in
    let front : take a all ≡ take a xs = take-put_mid_below _ _ _ _ _ (le_refl _) within in
    let rest : take n (drop a all) ≡ take n ys =
    ap (take n) (drop_at (take a xs) (ys ++ after) a (length-take-le a xs within)) ∙ take-append-le n ys after fits in
    ap (λ l. l ++ take n ys) (sym front) ∙ ap (λ l. take a all ++ l) (sym rest) ∙ sym (take-add a n all)

pub loop-done-preserved : goal.loop-done-preserved
loop-done-preserved g c =
    let at = c.loop-done.done in
    let room = length c.loop-done.buffer - at in
    let inv = c.loop-done.invariant in
    let read = c.in_ok-n.ensures in
    record {
      within = search rules;
      bytes = subst (Consumes _ _) (put_in at room c.in_ok-n.n c.loop-done.buffer c.read.new.buf inv.within read.bound.0)
          (Consumes-trans _ _ _ _ _ inv.bytes read.bytes.0);
    }
