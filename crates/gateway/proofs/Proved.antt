-- What holds of every list of checks through one tally, bare ones and those on books.
use mathlib.Core.Path.{refl}
use Rattle.std.proofs.lemmas.Iterator.Adapters.{option_map_id}
use Rattle.tally.specs.Through.{tallied_answer, tally_after}
use Rattle.tally.proofs.Totals.{Lawful}
use Rattle.tally.proofs.Proved.{through_one_tally}
use Rattle.gateway.specs.Through.{bare_checks, BareThroughOneTally, image_checks, ImagesThroughOneTally}
use Rattle.gateway.proofs.NotFull.{bare_not_full, image_not_full}

bare_lawful : Lawful bare_checks
unfolding tallied_answer tally_after
bare_lawful =
    record {
      answers = λ t o r u p. rw option_map_id p.answer;
      tally = λ t o r u p. p.tally;
      not_full = λ o. bare_not_full o.product o.size o.settlement o.amount o.spot o.price;
      says_full = refl;
    }

pub bare_through_one_tally : BareThroughOneTally
bare_through_one_tally = through_one_tally bare_checks bare_lawful

images_lawful : Lawful image_checks
unfolding tallied_answer tally_after
images_lawful =
    record {
      answers = λ t o r u p. rw option_map_id p.answer;
      tally = λ t o r u p. p.tally;
      not_full = λ o. image_not_full o.image o.product o.size o.month o.price;
      says_full = refl;
    }

pub images_through_one_tally : ImagesThroughOneTally
images_through_one_tally = through_one_tally image_checks images_lawful
