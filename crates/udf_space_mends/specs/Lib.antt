pub mod Spread
pub mod SlotMend
pub mod BitmapMend
pub mod IntegrityMend
