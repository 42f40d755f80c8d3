-- What a result's number is counted as.
use Rattle.std.proofs.Common.{◌≡◌, refl, Result, Ok, Err}
use Rattle.grain.specs.Bare.{checked_number}
use Rattle.grain.specs.declared.check.Verdict.{Verdict}
use Rattle.grain.specs.declared.check.Verdict.TheVariants.{Free, Within, Below, Above}
use Rattle.grain.specs.declared.refusals.Refusal.{Refusal}
use Rattle.grain.specs.declared.refusals.Refusal.TheVariants.{Unsound, WrongPhase, NoSuchDate, NotLater, NoSuchProduct, Misshapen, BadMonth, BadPrice, ContractAbsent, BeyondLimit, AlreadyIn, SheetOutstanding, UnfitAmount, NotListed, TallyFull, LeftNotSmaller, UnknownEdition, GroupExpanded}
use Rattle.tally.specs.Tally.{kind_of}
use Rattle.gateway.specs.Tallied.{kind_of_number}

-- a result's number is counted as the result is
pub same_kind : (r : Result Verdict Refusal) → kind_of_number (checked_number r) ≡ kind_of r
unfolding kind_of_number
same_kind (Ok Free) = refl
same_kind (Ok (Within s)) = refl
same_kind (Ok (Below s)) = refl
same_kind (Ok (Above s)) = refl
same_kind (Err Unsound) = refl
same_kind (Err WrongPhase) = refl
same_kind (Err NoSuchDate) = refl
same_kind (Err NotLater) = refl
same_kind (Err NoSuchProduct) = refl
same_kind (Err Misshapen) = refl
same_kind (Err BadMonth) = refl
same_kind (Err BadPrice) = refl
same_kind (Err ContractAbsent) = refl
same_kind (Err BeyondLimit) = refl
same_kind (Err AlreadyIn) = refl
same_kind (Err SheetOutstanding) = refl
same_kind (Err UnfitAmount) = refl
same_kind (Err NotListed) = refl
same_kind (Err TallyFull) = refl
same_kind (Err LeftNotSmaller) = refl
same_kind (Err UnknownEdition) = refl
same_kind (Err GroupExpanded) = refl
