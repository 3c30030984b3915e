-- Lemmas on texts.
pub mod Utf16
pub mod UnitBytes
pub mod Spelling
pub mod Lengths
pub mod Fields
pub mod Texts
pub mod Fronts
pub mod Turns
