-- The way of a time-triggered frame: its dispatch, its arrival, and whether it is taken.
pub mod Dispatching
pub mod Arrivals
pub mod Receptions
