pub mod Servers
pub mod Limits
