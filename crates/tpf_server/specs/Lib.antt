pub mod Asked
pub mod Conversation
pub mod Opened
pub mod Owed
pub mod Parameters
pub mod Read
pub mod Reading
pub mod Reloads
