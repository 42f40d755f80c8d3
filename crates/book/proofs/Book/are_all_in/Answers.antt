use Rattle.std.proofs.Common.{rules, sym, ◌∙◌}
use Rattle.book.specs.Soundness.{is_there}
use Rattle.book.specs.Book.{no_sheet}
use Rattle.book.proofs.Items.{every_place}
use Rattle.book.proofs.Book.are_all_in.Goals as goal

pub returns : goal.returns
returns c = c.are_all_in.ensures ∙ sym (every_place is_there 8 c.args.self.now.today no_sheet (search rules))
