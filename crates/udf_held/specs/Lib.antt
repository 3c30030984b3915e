pub mod Winners
pub mod Standing
pub mod Held
