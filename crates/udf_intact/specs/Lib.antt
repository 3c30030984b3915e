pub mod Steps
pub mod Entries
pub mod Paths
pub mod Images
pub mod Lawful
