pub mod Places
pub mod Files
pub mod Found
pub mod Recognition
pub mod FileRules
pub mod Bitmap
pub mod Integrity
pub mod Findings
