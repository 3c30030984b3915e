pub mod FreeRuns
pub mod SlotBlocks
pub mod Broken
pub mod Writing
pub mod Integrities
pub mod Surveyed
pub mod Spreading
pub mod Bitmaps
