pub mod Tallies
pub mod Through
