pub mod Bytes
pub mod Crc
pub mod Tag
pub mod Image
pub mod Size
