use Rattle.std.proofs.Common.{append_assoc}
use Rattle.season.specs.LineText.{shown, line_text}
use Rattle.season.proofs.Decimals.{decimal_in-is}
use Rattle.season.proofs.text.refused_text.Goals as goal

pub returns : goal.returns
unfolding line_text shown
returns c =
    rw
    (c.push_str-2.ensures.bytes, c.push_number.ensures.bytes, c.push_str.ensures.bytes, c.new-text.ensures)
    (simp (decimal_in-is _ c.ranges.number.fits, append_assoc))
