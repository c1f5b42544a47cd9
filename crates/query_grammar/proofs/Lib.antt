pub mod Faults
pub mod Follows
pub mod GroupFollows
pub mod GroupTexts
pub mod GroupStacks
pub mod GroupSteps
pub mod GroupFaults
pub mod GroupPlain
