pub mod Grammar
pub mod Steps
pub mod Groups
pub mod GroupSteps
