pub mod Feeding
pub mod Talks
pub mod Lists
pub mod Calls
pub mod Wires
pub mod Waits
pub mod Faults
pub mod Causes
