pub mod Runs
pub mod Labels
pub mod Texts
