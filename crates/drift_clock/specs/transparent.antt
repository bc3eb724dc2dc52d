pub mod Hops
pub mod Points
