pub mod Evaluation
pub mod Gathering
pub mod Stacks
