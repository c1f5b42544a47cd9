pub mod Data
pub mod Queries
pub mod Kept
pub mod KeptLaws
pub mod Causes
