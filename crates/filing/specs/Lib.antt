pub mod Files
pub mod Plain
