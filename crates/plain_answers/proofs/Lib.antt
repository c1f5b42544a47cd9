pub mod Puts
pub mod Firsts
pub mod Nested
