use Rattle.std.proofs.Common.{rules, ◌<◌, ◌^◌, append_assoc}
use Rattle.season.specs.LineText.{spaced, shown, line_text}
use Rattle.season.proofs.Decimals.{decimal_in-is}
use Rattle.season.proofs.text.limits_text.Goals as goal

pub returns : goal.returns
unfolding line_text shown spaced
returns c =
    let given = c.args.limits.now in
    let product : given.product < 2 ^ 32 = search rules in
    let initial : given.limits.initial < 2 ^ 32 = search rules in
    let expanded : given.limits.expanded < 2 ^ 32 = search rules in
    rw
    (c.push_str-3.ensures.bytes, c.push_number-3.ensures.bytes, c.push_str-2.ensures.bytes, c.push_number-2.ensures.bytes, c.push_str.ensures.bytes, c.push_number.ensures.bytes, c.new-text.ensures)
    (simp (decimal_in-is _ product, decimal_in-is _ initial, decimal_in-is _ expanded, append_assoc))
