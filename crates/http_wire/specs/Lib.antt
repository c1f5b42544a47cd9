pub mod Requests
pub mod Searches
pub mod Fields
pub mod Laws
pub mod Replies
pub mod Places
