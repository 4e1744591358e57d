pub mod Words
pub mod Colours
pub mod Sound
pub mod Outcome
pub mod Sources
pub mod computed
