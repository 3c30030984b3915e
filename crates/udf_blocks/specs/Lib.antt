pub mod Planned
pub mod Recorded
pub mod PlanFor
