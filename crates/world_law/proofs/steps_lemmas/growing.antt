-- What a device does again and again at one moment is bounded.
pub mod FromZero
pub mod Repeating
