pub mod Ranges
pub mod Conversions
pub mod Results
