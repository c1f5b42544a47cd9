pub mod Scripts
pub mod Peers
pub mod Held
pub mod Laws
