pub mod Identifiers
pub mod Numbered
pub mod NamedParents
pub mod Marks
pub mod Counts
pub mod LinkCounts
