pub mod HostViews
pub mod Untold
