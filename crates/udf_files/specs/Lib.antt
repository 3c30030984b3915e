pub mod Refusal
pub mod Files
