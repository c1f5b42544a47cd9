pub mod Counts
pub mod Beginnings
pub mod Federations
pub mod Changes
pub mod Steps
pub mod FederationLaws
