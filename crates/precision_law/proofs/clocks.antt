-- How clocks read, how they are set and what they show then, and what the last setting fixes.
pub mod Readings
pub mod Anchored
pub mod Epochs
pub mod OldDevices
