pub mod Middles
pub mod Collections
pub mod Collectors
pub mod Growth
pub mod Times
pub mod ClusterFacts
