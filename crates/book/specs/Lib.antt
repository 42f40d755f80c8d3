pub mod Book
pub mod Calls
pub mod Dates
pub mod Founding
pub mod Numbers
pub mod Phase
pub mod Soundness
