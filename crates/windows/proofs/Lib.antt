pub mod Shown
pub mod Collects
