pub mod Events
pub mod Machine
pub mod Runs
pub mod Standings
pub mod Times
