use Rattle.std.proofs.Common.{◌≡◌, length, rules}
use Rattle.book.specs.Book.{flag_word}
use Rattle.gateway.proofs.Made.{map_values}
use Rattle.gateway.proofs.image.renewed_words.Goals as goal

pub returns : goal.returns
returns c =
    let many : length c.args.renewed.now ≡ 8 = search rules in
    map_values _ flag_word _ (λ r y q k. search rules) _ _ 8 many c.map.ensures.items
