pub mod Nodes
pub mod Facts
pub mod computed
