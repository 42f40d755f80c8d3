pub mod Traces
pub mod Agrees
pub mod Follows
pub mod Proved
