pub mod Sets
pub mod Families
pub mod Rules
pub mod Named
pub mod Fits
pub mod computed
