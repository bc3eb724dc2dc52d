-- What a block of time brings, instant by instant, and how it leaves the network.
pub mod Hulls
pub mod Instants
pub mod Corrections
pub mod Dispatched
pub mod Onward
pub mod Halving
