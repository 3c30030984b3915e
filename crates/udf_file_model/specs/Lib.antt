-- The definitions of files and of the places of their blocks.
pub mod Entry
pub mod Descriptors
pub mod Pieces
pub mod Front
pub mod Listing
pub mod Content
pub mod Cut
pub mod CutBody
pub mod Wanted
pub mod CutEntry
pub mod Fid
pub mod Scan
pub mod Pack
pub mod Anew
pub mod Name
pub mod Place
pub mod Address
