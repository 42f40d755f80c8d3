pub mod Tally
pub mod Through
