pub mod Best
pub mod Shares
pub mod Standing
pub mod Telling
pub mod Walks
pub mod Winner
