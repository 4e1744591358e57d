pub mod Words
pub mod Texts
pub mod Outcome
pub mod computed
