pub mod Chained
pub mod Composed
pub mod Free
pub mod Giving
pub mod PlannedOver
pub mod Putting
