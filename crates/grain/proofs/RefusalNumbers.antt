-- Back from a number to the refusal that has it. No two refusals have one number.
use Rattle.std.proofs.Common.{◌≡◌, refl, ℕ, List, [], ◌∷◌, get_or}
use Rattle.grain.specs.Refusals.{number_of}
use Rattle.grain.specs.declared.refusals.Refusal.{Refusal}
use Rattle.grain.specs.declared.refusals.Refusal.TheVariants.{Unsound, WrongPhase, NoSuchDate, NotLater, NoSuchProduct, Misshapen, BadMonth, BadPrice, ContractAbsent, BeyondLimit, AlreadyIn, SheetOutstanding, UnfitAmount, NotListed, TallyFull, LeftNotSmaller, UnknownEdition, GroupExpanded}

-- in the order of their numbers, from 1 on; what stands first has no number 0
abbrev refusals : List Refusal
refusals =
    Unsound
    ∷ Unsound
    ∷ WrongPhase
    ∷ NoSuchDate
    ∷ NotLater
    ∷ NoSuchProduct
    ∷ Misshapen
    ∷ BadMonth
    ∷ BadPrice
    ∷ ContractAbsent
    ∷ BeyondLimit
    ∷ AlreadyIn
    ∷ SheetOutstanding
    ∷ UnfitAmount
    ∷ NotListed
    ∷ TallyFull
    ∷ LeftNotSmaller
    ∷ UnknownEdition
    ∷ GroupExpanded
    ∷ []

abbrev pub refusal_numbered : ℕ → Refusal
refusal_numbered n = get_or refusals n Unsound

pub numbered_back : (r : Refusal) → refusal_numbered (number_of r) ≡ r
numbered_back Unsound = refl
numbered_back WrongPhase = refl
numbered_back NoSuchDate = refl
numbered_back NotLater = refl
numbered_back NoSuchProduct = refl
numbered_back Misshapen = refl
numbered_back BadMonth = refl
numbered_back BadPrice = refl
numbered_back ContractAbsent = refl
numbered_back BeyondLimit = refl
numbered_back AlreadyIn = refl
numbered_back SheetOutstanding = refl
numbered_back UnfitAmount = refl
numbered_back NotListed = refl
numbered_back TallyFull = refl
numbered_back LeftNotSmaller = refl
numbered_back UnknownEdition = refl
numbered_back GroupExpanded = refl
