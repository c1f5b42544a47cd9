pub mod Blanks
pub mod Pages
pub mod KeptAuthorities
pub mod OwnPages
pub mod Distinct
