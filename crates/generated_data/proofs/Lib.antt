pub mod Texts
pub mod Classes
pub mod Pieces
