pub mod Under
pub mod Children
pub mod Once
pub mod Subtrees
