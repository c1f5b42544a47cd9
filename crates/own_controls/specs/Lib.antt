pub mod Metadata
pub mod Safe
pub mod Lines
pub mod Own
