pub mod Controls
pub mod Faults
pub mod Outcomes
pub mod Counts
pub mod Stages
