pub mod Table
pub mod Whole
pub mod Padded
pub mod Puts
pub mod Anew
