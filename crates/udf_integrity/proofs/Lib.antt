pub mod Formed
pub mod Extent
