-- What a frame can be that waits, or that comes up from below.
pub mod Proper
