pub mod Takes
pub mod Answered
pub mod Totals
pub mod Proved
pub mod Cases
