pub mod Products
pub mod Quotients
pub mod Euclid
pub mod TwosComplement
pub mod Digits
pub mod BitRanges
