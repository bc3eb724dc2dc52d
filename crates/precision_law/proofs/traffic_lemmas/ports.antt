-- No frame meets a frame of the schedule on a port.
pub mod Dispatched
pub mod Cycles
pub mod Arrived
pub mod Openers
pub mod Gates
