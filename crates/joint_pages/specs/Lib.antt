pub mod Parts
pub mod Gatherings
pub mod Joined
pub mod Joining
pub mod Truths
