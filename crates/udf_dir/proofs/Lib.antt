pub mod Lengths
pub mod Bits
pub mod Beginning
pub mod Steps
pub mod Wholes
pub mod Ordered
pub mod Packs
