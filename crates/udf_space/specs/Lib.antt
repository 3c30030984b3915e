-- The definitions of space bitmaps: their bits, and the areas that hold them.
pub mod Bits
pub mod Area
pub mod Stored
