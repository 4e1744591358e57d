pub mod Pairs
pub mod Clusters
pub mod computed
