use mathlib.Core.Bool.{not}
use mathlib.Core.Path.{ap}
use lib.Dec.{leb}
use Rattle.std.proofs.Common.{rules, tests}
use Rattle.std.proofs.lemmas.Iterator.{YieldsList-from_slice, YieldsList-from_take, YieldsList-from_map}
use Rattle.std.proofs.lemmas.Iterator.Consumers.{YieldsList-at, YieldsList-from_filter, sum_by_from_yields_List, fits_by_from_yields_list}
use Prim.Native.Nat.{◌^◌}
use Rattle.grain.specs.Products.{first_of}
use Rattle.record.specs.declared.Contract.{Contract}
use Rattle.grain.specs.Spot.{is_spot}
use Rattle.sheets.specs.Sheets.{entries_of}
use Rattle.ending.specs.Search.{count_of, first_in, are_enough_in}
use Rattle.ending.proofs.Enough.{sum_fits}
use Rattle.ending.proofs.moves.ProductMoves.are_enough.Goals as goal

pub sum-count-requires-clause-fits : goal.sum-count-requires-clause-fits
sum-count-requires-clause-fits c =
    let m = c.args.self.now in
    let h = count_of m.product m.limit.initial (entries_of m.last.now) in
    fits_by_from_yields_list h (first_in m.date m.product m.limit (entries_of m.today.now) (entries_of m.last.now)) c.map.result (2 ^ 32)
    (YieldsList-from_map _ h
    (YieldsList-at c.map.ensures.source
    (YieldsList-from_take (first_of m.product)
    (YieldsList-at c.take.ensures.source
    (YieldsList-from_filter _ (λ (d : Contract). not (is_spot m.date d.month))
    (YieldsList-at c.filter.ensures.source (YieldsList-from_slice (entries_of m.today.now) (cc)))
    c.filter.ensures.closure (λ x b q k. search (rules, tests))))
    (cc)))
    c.map.ensures.closure (λ x r q k. search (rules, tests)))
    (sum_fits m.product m.limit.initial (entries_of m.last.now) _)

pub returns : goal.returns
unfolding are_enough_in
returns c =
    let m = c.args.self.now in
    let h = count_of m.product m.limit.initial (entries_of m.last.now) in
    ap (leb 2) (sum_by_from_yields_List h (first_in m.date m.product m.limit (entries_of m.today.now) (entries_of m.last.now)) c.map.result c.sum-count.result c.sum-count.ensures.ran
    (YieldsList-from_map _ h
    (YieldsList-at c.map.ensures.source
    (YieldsList-from_take (first_of m.product)
    (YieldsList-at c.take.ensures.source
    (YieldsList-from_filter _ (λ (d : Contract). not (is_spot m.date d.month))
    (YieldsList-at c.filter.ensures.source (YieldsList-from_slice (entries_of m.today.now) (cc)))
    c.filter.ensures.closure (λ x b q k. search (rules, tests))))
    (cc)))
    c.map.ensures.closure (λ x r q k. search (rules, tests))))
