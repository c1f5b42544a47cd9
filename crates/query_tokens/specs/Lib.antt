pub mod Classes
pub mod Escapes
pub mod Forms
pub mod Machine
pub mod Names
pub mod Pieces
pub mod Sets
