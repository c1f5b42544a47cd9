pub mod Response
pub mod Standing
pub mod Waits
pub mod Held
pub mod Sides
pub mod Looped
pub mod Laws
