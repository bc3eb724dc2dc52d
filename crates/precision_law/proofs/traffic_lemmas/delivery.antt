-- Each frame that is owed is delivered once, in its window, as its sender dispatched it.
pub mod Coming
pub mod Faultless
pub mod Taken
pub mod Forwarding
pub mod Delivering
pub mod Owing
pub mod Latency
