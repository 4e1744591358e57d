pub mod Spelling
pub mod Demands
pub mod computed
