pub mod Basing
pub mod Nothing
pub mod Room
pub mod Sorting
