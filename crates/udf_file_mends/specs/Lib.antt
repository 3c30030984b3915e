-- What a repair makes of the entries that a volume keeps, block by block.
pub mod Wanted
pub mod Spread
pub mod Mends
pub mod Repairable
pub mod FileSet
