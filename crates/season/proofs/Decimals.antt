-- A 32-bit number in decimal, as std prints it.
use Rattle.std.proofs.Common.{◌≡◌, ◌^◌, ◌<◌, ℕ, arith}
use Rattle.std.specs.Fmt.{decimal}
use Rattle.std.proofs.lemmas.Fmt.{decimal_from_appends, length-decimal-le}
use borrow.Author.Tests.{lt-ltb, le-ltb}
use Rattle.season.specs.LineText.{decimal_in}

pub decimal_in-is : (n : ℕ) → n < 2 ^ 32 → decimal_in 10 n ≡ decimal n
unfolding decimal_in
decimal_in-is n small =
    decimal_from_appends
    decimal_in
    record { one = λ k m l. rw (lt-ltb m 10 l); more = λ k m l. rw (le-ltb m 10 l) }
    10
    n
    (omega arith)
    (length-decimal-le 10 n (omega arith) (omega arith) (omega arith))
