use Rattle.std.proofs.Common.{rules, get_or, refl, [], arith}
use Rattle.std.specs.Int.{w32, from_le_bytes}
use Rattle.std.specs.Simd.{first_chunks}
use Rattle.season.proofs.FromFn.{made_from}
use Rattle.season.proofs.Words.{all_words}
use Rattle.season.proofs.file.words_of.Goals as goal

pub returns : goal.returns
returns c =
    all_words
    _
    _
    c.from_fn.ensures.items.long
    (λ k l. made_from _ _ (λ i. from_le_bytes w32 (get_or (first_chunks 4 92 c.args.file.now) i [])) 92 (λ i r f' b h. search rules) _ 0 92 refl c.from_fn.ensures.items.each k (omega arith) l)
