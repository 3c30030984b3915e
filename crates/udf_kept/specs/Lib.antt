pub mod Entries
pub mod Fitted
pub mod Keeping
pub mod Indexed
pub mod Offers
pub mod Selects
pub mod Depths
pub mod FirstLinks
