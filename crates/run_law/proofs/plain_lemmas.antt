pub mod Padded
pub mod Same
