pub mod Grown
pub mod Places
pub mod Listing
pub mod Replaying
pub mod Left
