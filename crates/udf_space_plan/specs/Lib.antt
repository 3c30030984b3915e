pub mod Runs
pub mod Sequence
pub mod Descriptor
pub mod Counts
pub mod Prevailing
pub mod Extent
pub mod Bitmap
