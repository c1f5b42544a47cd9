pub mod Fitting
pub mod Servers
pub mod JointWorlds
pub mod JointFitting
