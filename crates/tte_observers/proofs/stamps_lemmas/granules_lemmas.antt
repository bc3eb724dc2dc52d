pub mod Floors
pub mod Stamped
