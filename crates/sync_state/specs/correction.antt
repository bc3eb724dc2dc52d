pub mod Deviation
pub mod Correction
