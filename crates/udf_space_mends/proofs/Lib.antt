pub mod Rows
pub mod Slots
pub mod Spreading
pub mod Freeing
pub mod Stating
pub mod Prevailing
pub mod Fresh
pub mod Integral
