pub mod Placing
pub mod Stated
