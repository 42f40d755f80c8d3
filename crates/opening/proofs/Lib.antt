pub mod TrueDays
pub mod Refused
pub mod DateOrder
pub mod FullWindows
pub mod Starts
pub mod Renewals
pub mod SeasonStarts
