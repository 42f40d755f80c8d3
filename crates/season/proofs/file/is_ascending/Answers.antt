use Rattle.std.proofs.Common.{rules, ◌∙◌, ap, nat_lt}
use Rattle.std.proofs.lemmas.Fn.{always_returns_same}
use Rattle.std.proofs.lemmas.List.{map-id}
use Rattle.grain.specs.Lists.{is_ascending}
use Rattle.grain.proofs.Adjacent.{ascending_from_adjacent}
use Rattle.season.proofs.file.is_ascending.Goals as goal

pub returns : goal.returns
returns c =
    let adjacent = c.is_sorted_by.ensures.cases nat_lt (always_returns_same _ _ _ (λ a r f' k. search rules)) in
    ascending_from_adjacent (λ n. n) c.args.words.now _ adjacent ∙ ap is_ascending (map-id c.args.words.now)
