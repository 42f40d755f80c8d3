pub mod FromFn
pub mod Words
pub mod Shape
pub mod Limits
pub mod Decimals
pub mod LineCases
pub mod OrderCases
pub mod Reading
