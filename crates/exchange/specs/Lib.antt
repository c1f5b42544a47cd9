pub mod Incoming
pub mod Receiving
pub mod Exchanges
pub mod Polls
pub mod Parts
