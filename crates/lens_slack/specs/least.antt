pub mod Times
pub mod Parts
pub mod Least
pub mod Lines
pub mod Answer
pub mod Laws
