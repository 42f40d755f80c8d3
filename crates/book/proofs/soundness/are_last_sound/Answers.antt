use Rattle.std.proofs.Common.{◌≡◌, rules, sym, ◌∙◌, true, false}
use Rattle.std.specs.Prelude.{is_some}
use Rattle.grain.specs.Lists.{◌and◌}
use Rattle.book.proofs.Either.{second_holds, second_fails}
use Rattle.book.proofs.soundness.are_last_sound.Goals as goal

pub returns-then-are_missing : goal.returns-then-are_missing
returns-then-are_missing c = sym (second_holds _ _ (sym c.are_missing.ensures ∙ c.if-are_missing.true))

pub returns-then-is_none : goal.returns-then-is_none
unfolding ◌and◌
returns-then-is_none c =
    let none : is_some c.args.opened ≡ false = search rules in
    rw (none, sym c.are_missing.ensures ∙ c.if-are_missing.false)

pub returns : goal.returns
unfolding ◌and◌
returns c =
    let some : is_some c.args.opened ≡ true = search rules in
    rw some (c.are_all_in.ensures ∙ sym (second_fails _ _ (sym c.are_missing.ensures ∙ c.if-are_missing.false)))
