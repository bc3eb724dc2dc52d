-- The planned network.
pub mod Extends
pub mod Served
pub mod Joined
pub mod Impossible
pub mod Planned
