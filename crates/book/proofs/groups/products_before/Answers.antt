use native.Mathlib.Omega.{arith}
use Prim.Native.Nat.{◌+◌}
use mathlib.Core.Path.{sym}
use Rattle.record.specs.State.{group_table, group_count}
use Rattle.book.specs.Numbers.{products_before}
use Rattle.book.proofs.Numbers.{value_at}
use Rattle.book.proofs.ProductsBefore.{all_before}
use Rattle.book.proofs.groups.products_before.Goals as goal

-- the code has the start of each group in a row

pub returns-then-g-gt-GROUP_COUNT : goal.returns-then-g-gt-GROUP_COUNT
returns-then-g-gt-GROUP_COUNT c = sym (all_before c.args.g (omega arith))

pub returns : goal.returns
unfolding group_table products_before
returns c = value_at 0 products_before (group_count + 1) c.args.g (omega arith)
