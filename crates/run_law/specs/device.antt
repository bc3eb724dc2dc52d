-- Where a device stands: its state, its local clock, and what it is when a frame comes.
pub mod States
pub mod LocalClocks
pub mod Standpoints
pub mod StateChanges
