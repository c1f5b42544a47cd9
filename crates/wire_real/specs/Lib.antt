pub mod Accounts
pub mod Sockets
pub mod Laws
