pub mod Judging
pub mod Reading
pub mod Claiming
pub mod Standing
pub mod TestParts
