-- A sheet that is plainly after the last ended one: the quick test of a filing.
-- For the functions inside: the test only accepts, and what the call promises is in Files.antt alone.
use Rattle.std.specs.Prelude.{ℕ, ◌≤◌, ◌≡◌, true, List}
use Rattle.std.specs.List.{AllZip}
use Rattle.grain.specs.Lists.{distance}
use Rattle.grain.specs.Prices.{is_settlement}
use Rattle.record.specs.declared.Contract.{Contract}

-- A contract after the one of the same month before it: its settlement is on the standard tick and moved by at most the limit.
pub record IsPlainlyAfter (p limit : ℕ) (before c : Contract) : Type 0 where
  pub month : c.month ≡ before.month
  pub settled : is_settlement p c.settlement ≡ true
  pub near : distance c.settlement before.settlement ≤ limit

-- every contract so after the one in its place on the last ended sheet, which has as many
abbrev pub PlainlyAfter : ℕ → ℕ → List Contract → List Contract → Type 0
PlainlyAfter p limit last today = AllZip (IsPlainlyAfter p limit) last today
