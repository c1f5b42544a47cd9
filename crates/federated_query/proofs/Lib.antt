pub mod Standing
pub mod Numbers
pub mod Together
pub mod Covering
pub mod Fitting
mod Still
