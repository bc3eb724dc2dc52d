-- Timed.
pub mod Rows
