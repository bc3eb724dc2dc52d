-- Control.
pub mod Verdicts
pub mod Summaries
pub mod Points
pub mod Arrived
