pub mod pcap
pub mod CaptureLine
pub mod Answer
pub mod Law
pub mod wires
