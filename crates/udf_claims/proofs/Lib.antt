pub mod Sharing
pub mod Standing
pub mod Telling
pub mod Walks
pub mod Winning
