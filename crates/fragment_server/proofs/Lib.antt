pub mod Honest
pub mod Standing
