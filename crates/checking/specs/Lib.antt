pub mod Terms
pub mod Checks
