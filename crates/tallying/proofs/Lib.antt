pub mod BookAnswers
pub mod Proved
