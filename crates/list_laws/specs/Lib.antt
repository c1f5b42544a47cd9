pub mod Options
pub mod Begins
