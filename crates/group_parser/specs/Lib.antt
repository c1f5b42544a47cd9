pub mod Walks
pub mod Groups
pub mod Texts
pub mod Building
pub mod Asking
