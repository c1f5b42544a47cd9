pub mod News
pub mod Takings
pub mod Places
pub mod Matching
pub mod Truth
