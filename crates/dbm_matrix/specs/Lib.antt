pub mod Bounds
pub mod Paths
pub mod Changes
pub mod Solutions
