use native.Mathlib.Omega.{arith}
use Prim.Native.Nat.{min}
use mathlib.Core.Path.{◌≡◌, sym, ◌∙◌, ap}
use mathlib.Core.List.{map}
use lib.ListN.{length, length-take, length-map}
use Rattle.std.proofs.lemmas.Iterator.{YieldsList-from_slice, YieldsList-from_zip, YieldsList-from_take}
use Rattle.std.proofs.lemmas.Iterator.Consumers.{YieldsList-from_enumerate}
use Rattle.record.specs.Sheet.{contracts}
use Rattle.sheets.specs.Sheets.{entries_of}
use Rattle.sheets.proofs.Fills.{contracts-length}
use Rattle.sheets.proofs.Yielded.{all_yielded, contract_of, pairs_are}
use Rattle.std.proofs.lemmas.Simd.{map-map}
use Rattle.sheets.proofs.sheet.Sheet.of.Given as given
use Rattle.sheets.proofs.sheet.Sheet.of.Goals as goal

pub returns : goal.returns
unfolding entries_of
returns c =
    let ms = c.args.months.now in
    let ss = c.args.settlements.now in
    let road = YieldsList-from_enumerate {s = c.into_iter-i-iterator.result} (YieldsList-from_take 16 (YieldsList-from_zip (YieldsList-from_slice ms cc) (YieldsList-from_slice ss cc)) cc) cc in
    let items = all_yielded given.iterator-loop-i.next_gives (λ y. (y.0, (y.1.0.now, y.1.1.now))) c.into_iter-i-iterator.result c.loop-i.i-iterator c.next.new.self c.loop-i.yielded _ c.loop-i.yielded_by (rw c.in-None.is at c.next.ensures.steps) road.runs in
    let put = sym (map-map contract_of _ c.loop-i.yielded) ∙ ap (map contract_of) items ∙ pairs_are 0 16 ms ss in
    let long : length c.loop-i.yielded ≡ min 16 (length (contracts ms ss)) = sym (length-map c.loop-i.yielded _) ∙ ap length put ∙ length-take 16 (contracts ms ss) in
    let n : c.min-n.result ≡ min 16 (length (contracts ms ss)) = rw (contracts-length ms ss) (omega arith) in
    record {
      count = n ∙ sym (length-take 16 (contracts ms ss));
      entries = rw (n ∙ sym long) (c.loop-i.invariant.2 ∙ put);
    }
