pub mod Heads
pub mod Packets
