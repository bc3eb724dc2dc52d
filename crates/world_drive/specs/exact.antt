pub mod Records
pub mod Worlds
