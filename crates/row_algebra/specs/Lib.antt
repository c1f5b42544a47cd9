pub mod Algebra
pub mod Finding
