pub mod Versions
pub mod Kinds
pub mod Supplies
