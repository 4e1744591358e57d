pub mod Crosses
pub mod Keeps
