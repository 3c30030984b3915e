pub mod Findings
pub mod Reported
pub mod Lines
pub mod Structures
pub mod Slots
