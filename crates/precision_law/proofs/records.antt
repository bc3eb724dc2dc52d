-- The records of a run up to a time: their order, what is due, and what is recorded.
pub mod Times
pub mod Views
pub mod RunViews
pub mod Behind
pub mod Points
pub mod Judged
