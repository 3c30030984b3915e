pub mod Nothing
pub mod Ruled
pub mod Together
pub mod Fronts
