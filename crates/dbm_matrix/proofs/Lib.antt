pub mod Options
mod Grid
mod Rows
pub mod Paths
pub mod Closure
mod Written
pub mod Merging
pub mod Assigning
pub mod Choosing
pub mod Solving
pub mod Relaxing
pub mod Magnitudes
