-- Rows, their periods and what their numbers leave.
pub mod Rows
pub mod Values
