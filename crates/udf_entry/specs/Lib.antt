-- What the calls and types of this crate show, where one definition of files does not say it.
pub mod Bits
pub mod Opened
pub mod Outcome
pub mod Intervals
pub mod RunView
pub mod ReadingView
pub mod NextView
pub mod ListView
pub mod ValuesView
pub mod Stopped
