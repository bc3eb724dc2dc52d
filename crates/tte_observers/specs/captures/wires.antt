pub mod Packets
pub mod Answer
pub mod Streaming
pub mod Safely
pub mod Seeing
pub mod Stopping
