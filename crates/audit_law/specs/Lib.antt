pub mod law
pub mod events
pub mod collections
