pub mod Blocks
pub mod Texts
pub mod Plans
pub mod Acts
pub mod Still
pub mod Ended
pub mod Asking
pub mod Writing
