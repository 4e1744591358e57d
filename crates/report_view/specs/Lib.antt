pub mod Letters
pub mod Sites
pub mod Lines
pub mod Changes
