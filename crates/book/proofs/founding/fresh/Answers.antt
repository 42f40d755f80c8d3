use Rattle.std.proofs.Common.{rules}
use Rattle.book.specs.Founding.{no_book}
use Rattle.book.proofs.Founded.{founded_shown}
use Rattle.book.proofs.founding.fresh.Goals as goal

pub returns : goal.returns
unfolding no_book
returns c =
    rw c.none.ensures
    (founded_shown (record { edition = c.args.edition; limits = c.args.limits }) c.from_fn.result (λ p l. search rules))
