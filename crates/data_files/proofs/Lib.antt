pub mod TermLists
pub mod PlainTexts
pub mod Outcomes
pub mod Causes
pub mod Held
