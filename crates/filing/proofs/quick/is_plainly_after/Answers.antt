use Rattle.sheets.proofs.Rest.{mapped}
use Rattle.sheets.proofs.Soundness.{full_entries}
use Rattle.filing.proofs.quick.is_plainly_after.Goals as goal

pub returns-then-last-eq-MAX_CONTRACTS : goal.returns-then-last-eq-MAX_CONTRACTS
returns-then-last-eq-MAX_CONTRACTS c =
    rw
    (full_entries c.args.last.now (search mapped) c.if-last-eq-MAX_CONTRACTS.true, full_entries c.args.s.now (search mapped) c.if-s-eq-MAX_CONTRACTS.true)
    c.are_plainly_after.ensures
