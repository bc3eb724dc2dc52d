pub mod Puts
pub mod FormLemmas
pub mod Octets
pub mod frames
pub mod networks
pub mod Facts
