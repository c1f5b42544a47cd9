pub mod Bools
pub mod Joins
pub mod Fits
pub mod Ordered
pub mod Walks
pub mod Counts
pub mod Selected
pub mod Sieves
