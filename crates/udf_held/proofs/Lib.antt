pub mod Wanted
pub mod Deciding
pub mod Standings
pub mod Fronting
pub mod Spaces
pub mod Holdings
