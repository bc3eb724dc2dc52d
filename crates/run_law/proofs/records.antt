-- Records.
pub mod Order
pub mod Told
pub mod Members
