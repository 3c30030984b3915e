pub mod Contents
pub mod Stays
pub mod Anew
pub mod After
