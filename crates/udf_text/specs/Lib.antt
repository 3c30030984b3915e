-- The definitions of texts.
pub mod Compressed
pub mod Front
pub mod Size
