pub mod Pools
pub mod Owned
pub mod Polls
pub mod Runs
pub mod Faults
pub mod Steps
pub mod Closing
