pub mod Log
pub mod Settled
pub mod Faults
pub mod Runs
pub mod Side
pub mod Front
pub mod Sealing
