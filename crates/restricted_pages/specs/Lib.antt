pub mod Cells
pub mod Pages
pub mod Patterns
