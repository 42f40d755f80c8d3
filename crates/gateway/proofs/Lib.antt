mod Made
pub mod Leaves
pub mod Numbers
pub mod Imaged
pub mod Zeros
pub mod TallyWords
pub mod TallyRefusals
pub mod NotFull
pub mod Proved
