pub mod Grids
pub mod Clusters
