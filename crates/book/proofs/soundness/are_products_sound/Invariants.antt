use Rattle.std.proofs.Common.{◌≡◌, drop}
use Rattle.grain.specs.Lists.{every}
use Rattle.book.specs.Numbers.{all_products}
use Rattle.book.specs.Soundness.{are_settlements_sound}
use Rattle.book.proofs.soundness.are_products_sound.Given as goal

abbrev pub invariant-loop-p : goal.invariant-loop-p
invariant-loop-p l =
    every (are_settlements_sound l.b) all_products ≡ every (are_settlements_sound l.b) (drop l.p all_products)
