pub mod Generated
pub mod Lines
