use Rattle.std.proofs.Common.{◌≡◌, sym, ◌∙◌, ℕ, Bool, true, false}
use Rattle.grain.specs.Products.{product_count}
use Rattle.book.specs.Soundness.{are_settlements_sound}
use Rattle.book.proofs.Numbers.{one_fails, one_goes_on, none_left}
use Rattle.book.proofs.soundness.are_products_sound.Goals as goal

pub returns-then-not-are_settlements_sound : goal.returns-then-not-are_settlements_sound
returns-then-not-are_settlements_sound c =
    let test : ℕ → Bool = are_settlements_sound c.args.b.now in
    let no : test c.loop-p.p ≡ false = sym c.are_settlements_sound.ensures ∙ c.if-not-are_settlements_sound.true in
    sym (one_fails test product_count c.loop-p.p c.loop-p-test.true no c.loop-p.invariant)

pub loop-p-preserved : goal.loop-p-preserved
loop-p-preserved c =
    let test : ℕ → Bool = are_settlements_sound c.args.b.now in
    let yes : test c.loop-p.p ≡ true = sym c.are_settlements_sound.ensures ∙ c.if-not-are_settlements_sound.false in
    one_goes_on test product_count c.loop-p.p c.loop-p-test.true yes c.loop-p.invariant

pub returns : goal.returns
returns c =
    let test : ℕ → Bool = are_settlements_sound c.args.b.now in
    sym (none_left test product_count c.loop-p.p c.loop-p-test.false c.loop-p.invariant)
