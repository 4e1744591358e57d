pub mod Ordered
pub mod Pushes
pub mod Moves
pub mod Partitions
pub mod Placings
pub mod Fits
