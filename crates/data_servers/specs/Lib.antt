pub mod Supplies
pub mod Servers
pub mod Laws
pub mod Starts
