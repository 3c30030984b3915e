pub mod Xor
pub mod Remainder
pub mod Parts
pub mod Whole
pub mod Written
pub mod Relocated
pub mod Retagged
pub mod Sizes
