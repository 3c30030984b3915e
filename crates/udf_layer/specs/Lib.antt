-- Sparing tables, and the lemmas that the laws of layers cite.
pub mod StandsAt
pub mod Physicals
pub mod Lone
pub mod Packets
pub mod Tables
pub mod Fronts
pub mod Prevailing
pub mod Read
pub mod Verdict
pub mod Spared
pub mod Indexes
pub mod Lawful
pub mod Causes
