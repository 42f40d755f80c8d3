use Rattle.book.proofs.Zeros.{day_is, limit_is, standing_is, zeros}
use Rattle.book.proofs.Book.none.Goals as goal

pub returns : goal.returns
returns c =
    zeros _ _ _ _ _ _ (day_is c.default.result c.default.ensures) (limit_is c.default-2.result c.default-2.ensures) (standing_is c.default-3.result c.default-3.ensures) c.none.ensures c.none-2.ensures.value c.none-3.ensures.value
