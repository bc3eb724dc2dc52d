pub mod Counting
pub mod Spread
pub mod Lines
pub mod Laws
