-- The way of a protocol control frame: it leaves, is on a wire, arrives, is permanent, is collected and sent on, is
-- heard, and sets clocks.
pub mod Leaving
pub mod Wires
pub mod Arrivals
pub mod Permanence
pub mod Collections
pub mod Emissions
pub mod Hearing
pub mod Corrections
pub mod Losses
