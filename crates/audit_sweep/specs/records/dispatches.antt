pub mod Crossing
pub mod Dispatched
pub mod Exits
pub mod Judged
pub mod Leaving
pub mod Leavings
pub mod Passed
pub mod Sent
