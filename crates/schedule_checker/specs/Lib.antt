pub mod Groups
pub mod Ports
pub mod Refusals
pub mod Judging
pub mod Shape
pub mod Timing
pub mod Routes
pub mod Parts
