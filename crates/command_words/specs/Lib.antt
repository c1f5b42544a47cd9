pub mod Apps
pub mod CommandNames
pub mod CommandViews
pub mod Commands
pub mod Forms
pub mod Words
