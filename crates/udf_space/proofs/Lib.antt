pub mod Packing
pub mod Places
pub mod Counting
pub mod Encoding
pub mod Clearing
pub mod Differing
