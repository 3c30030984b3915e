pub mod Refusing
pub mod Placed
