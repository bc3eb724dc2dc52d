-- The fault hypothesis is decided.
pub mod Decisions
pub mod Decided
pub mod Devices
pub mod Ways
