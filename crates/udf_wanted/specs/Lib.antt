pub mod Kept
pub mod Wanted
pub mod Writable
