pub mod Lists
pub mod Places
pub mod Counting
pub mod Gathered
pub mod Asking
pub mod Answering
pub mod Giving
pub mod Beginning
