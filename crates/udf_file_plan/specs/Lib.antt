pub mod Alike
pub mod Base
pub mod Chain
pub mod Cuts
pub mod Node
pub mod Over
pub mod Parts
