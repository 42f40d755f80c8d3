pub mod EarlyTests
pub mod Contracts
mod After
pub mod Plain
pub mod Filings
