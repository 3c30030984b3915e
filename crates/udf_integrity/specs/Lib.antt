pub mod Stated
pub mod Answers
