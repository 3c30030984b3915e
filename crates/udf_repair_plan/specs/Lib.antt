pub mod Put
pub mod Draft
