-- The laws: blocks cover the run, and in each of them clocks are near and the time is kept.
pub mod Precision
pub mod OnTime
pub mod Spreading
pub mod Whole
