pub mod Rest
pub mod Fills
pub mod Soundness
pub mod InOneLoop
pub mod Plain
pub mod Lookups
pub mod Yielded
pub mod Defaults
