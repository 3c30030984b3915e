pub mod Checked
pub mod Seen
pub mod Space
pub mod SeenContents
pub mod Tallied
pub mod Right
pub mod SeenLinks
pub mod Surveyed
