pub mod Intervals
pub mod Forms
pub mod Comparing
