pub mod Counting
pub mod Lawful
pub mod Identifying
