pub mod Places
pub mod Written
pub mod Copying
pub mod Closed
pub mod Standing
pub mod Ones
