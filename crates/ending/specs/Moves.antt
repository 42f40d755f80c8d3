-- The moves of the day that ends, as the code passes them on.
use Rattle.std.specs.Prelude.{List}
use Rattle.record.specs.Move.{Move}
use Rattle.record.specs.History.{products_of}
use Rattle.ending.specs.Lead.{moves_of}
use Rattle.ending.specs.declared.moves.GroupMoves.{GroupMoves}

-- of each product of a group
abbrev pub moves_in : GroupMoves → List (List Move)
moves_in m = moves_of m.day.book.now m.day.date (products_of m.group)
