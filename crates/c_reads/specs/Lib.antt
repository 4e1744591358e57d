pub mod Exact
pub mod Postfix
