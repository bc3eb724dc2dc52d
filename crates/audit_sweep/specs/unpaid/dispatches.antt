pub mod Debtors
pub mod Frames
