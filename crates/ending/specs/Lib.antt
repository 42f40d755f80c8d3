pub mod Lead
pub mod Moves
pub mod Search
pub mod Ends
