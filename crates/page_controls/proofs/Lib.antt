pub mod Counted
pub mod Fine
pub mod Asked
pub mod Homes
