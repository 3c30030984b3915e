pub mod Further
pub mod Accepted
pub mod Sized
