pub mod Moments
pub mod Points
pub mod Brought
pub mod Crossing
pub mod Finding
pub mod Sendings
