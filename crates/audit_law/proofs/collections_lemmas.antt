pub mod Clusters
pub mod Wide
