pub mod Takes
pub mod Blanks
pub mod Outcomes
pub mod Laws
pub mod Authorities
pub mod Own
pub mod Ascending
