use native.Mathlib.Omega.{arith}
use Prim.Native.Nat.{◌+◌, ◌<◌}
use mathlib.Core.Path.{sym}
use Rattle.std.proofs.Common.{rules}
use Rattle.book.specs.Numbers.{products_before}
use Rattle.book.proofs.ProductsBefore.{before_next, before_small, stand_together}
use Rattle.ending.proofs.Nexts.{Nearest}
use Rattle.ending.proofs.Searched.{met, Among, Ahead, all_spot, nearest_in, ahead_next, seen_next, none_leads, this_leads}
use Rattle.ending.proofs.moves.GroupMoves.leading.Goals as goal
use Rattle.ending.proofs.moves.GroupMoves.leading.Goals.{After-next_month}

-- the next month after a month, over the products of the group

near : (c : After-next_month) → Nearest (Among c.args.self.now.day.book.now (products_before c.args.self.now.group) (products_before (c.args.self.now.group + 1))) c.months.month c.next_month.result
near c =
    let m = c.args.self.now in
    nearest_in m.day.book.now (products_before m.group) (products_before (m.group + 1)) c.months.month _ (rw c.sheets-sheets.ensures at c.next_month.ensures)

ahead : (c : After-next_month)
    → let m = c.args.self.now in
    Ahead (met m.day.book.now m.day.date c.args.condition) (products_before m.group) (products_before (m.group + 1)) c.next_month.result
ahead c =
    let m = c.args.self.now in
    ahead_next m.day.book.now m.day.date c.args.condition _ _ (before_next m.group m.numbered) (before_small m.group m.numbered) m.day.readable c.months.month _ (near c) c.months.invariant

pub months-init : goal.months-init
months-init c = all_spot c.args.self.now.day.book.now c.args.self.now.day.date c.args.condition _ _

pub months-smaller : goal.months-smaller
months-smaller c =
    let later : c.months.month < c.in-Some.next = (rw c.in-Some.is at (near (goal.at.months-smaller c).After-next_month)).0 in
    omega arith

pub months-preserved : goal.months-preserved
months-preserved c =
    let clear = rw c.in-Some.is at (ahead (goal.at.months-preserved c).After-next_month) in
    seen_next _ _ _ c.in-Some.next clear (search rules)

pub returns-in_default : goal.returns-in_default
returns-in_default c =
    let a = c.args in
    let m = a.self.now in
    let clear = rw c.in_default.is at (ahead (goal.at.returns-in_default c).After-next_month) in
    rw (← (stand_together m.group m.numbered))
    (sym (none_leads m.day.book.now m.day.date a.condition _ _ (before_next m.group m.numbered) (before_small m.group m.numbered) m.day.readable clear))

pub returns-then-meet : goal.returns-then-meet
returns-then-meet c =
    let a = c.args in
    let m = a.self.now in
    let clear = rw c.in-Some.is at (ahead (goal.at.returns-then-meet c).After-next_month) in
    rw (← (stand_together m.group m.numbered), c.of_product-moves.ensures.product)
    (sym (this_leads m.day.book.now m.day.date a.condition _ _ (before_next m.group m.numbered) (before_small m.group m.numbered) m.day.readable c.in-Some.next c.in-Some-p.p clear (search rules) (search rules) (search rules) (search rules)))
