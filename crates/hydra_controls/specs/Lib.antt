pub mod LineTexts
pub mod Facts
pub mod Laws
pub mod Cuts
pub mod Lines
