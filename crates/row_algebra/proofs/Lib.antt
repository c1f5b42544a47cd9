pub mod Keys
pub mod Indexes
pub mod Pairs
pub mod Onces
pub mod Orders
