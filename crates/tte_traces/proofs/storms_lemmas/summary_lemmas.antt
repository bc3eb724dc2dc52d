pub mod Counting
pub mod Spreads
