pub mod Telling
pub mod Spread
pub mod Lines
pub mod Answer
pub mod Laws
