-- The records of a run: their frames, their causes and their order.
pub mod Happenings
pub mod Frames
pub mod Causes
pub mod Order
pub mod Ranks
