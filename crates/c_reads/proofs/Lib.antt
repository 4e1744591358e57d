pub mod Binding
pub mod PostfixRead
pub mod Steps
