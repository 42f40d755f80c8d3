use Rattle.std.proofs.Common.{◌≡◌, ◌≤◌, rules, arith, length, take, length-take-le}
use Rattle.season.proofs.Reading.{read_decides, written_for_all}
use Rattle.season.proofs.run.Goals as goal

pub returns : goal.returns
returns g c =
    let n = c.in_ok-n.n in
    let read = take n c.read_full.new.buffer in
    let full : length c.read_full.new.buffer ≡ 369 = search rules in
    let within = c.in_ok-n.ensures.within in
    let long : length read ≡ n = length-take-le _ _ within in
    let fits : length read ≤ 369 = omega (arith, within) in
    let input = g.R.Read.remaining c.args.input.now in
    let rest = g.R.Read.remaining c.read_full.new.input in
    let decided = read_decides input rest read fits c.in_ok-n.ensures.bytes (λ few. c.in_ok-n.ensures.end (omega arith)) in
    let text = c.as_bytes.result.now in
    let before = g.W.Write.contents c.args.output.now in
    let after = g.W.Write.contents c.write_all.new.self in
    written_for_all c.write_all.result input before after read text c.write_all.ensures.bytes (search rules) decided
