pub mod Tightening
pub mod Together
