use Rattle.std.proofs.Common.{refl}
use Rattle.std.proofs.lemmas.Iterator.Adapters.{option_map_id}
use Rattle.grain.specs.Bare.{checked_number}
use Rattle.tally.proofs.Answered.{answered, tallied}
use Rattle.gateway.specs.Tallied.{kind_of_number}
use Rattle.gateway.proofs.TallyWords.{same_kind}
use Rattle.gateway.proofs.tallied.through.Goals as goal

pub returns : goal.returns
returns c =
    let p = c.args.checked in
    let t = c.args.tally.now in
    let s = c.through-answer.ensures in
    rw (c.checked_number.ensures)
    (record {
      answer = rw option_map_id at (answered checked_number (λ m. m) (λ x. refl) t p c.through-answer.result _ refl s.answered);
      tally = tallied checked_number kind_of_number same_kind t c.through-answer.new.self p _ refl s.counted;
    })
