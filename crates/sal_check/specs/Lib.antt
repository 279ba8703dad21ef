pub mod Near
pub mod Nodes
pub mod Paths
pub mod Uniques
