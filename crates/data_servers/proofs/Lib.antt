pub mod Refused
pub mod Readable
pub mod Few
pub mod Small
