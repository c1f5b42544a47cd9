pub mod Widths
pub mod Steps
pub mod Sufficing
pub mod Selections
pub mod Groups
