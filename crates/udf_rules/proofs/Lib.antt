pub mod Ordered
pub mod Reported
pub mod Naming
pub mod Recognising
