pub mod Reached
pub mod Bringing
