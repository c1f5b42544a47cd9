pub mod Statuses
pub mod Names
pub mod Lines
pub mod Endings
pub mod EndingViews
