pub mod Chars
pub mod Steps
pub mod Unescaped
pub mod Values
