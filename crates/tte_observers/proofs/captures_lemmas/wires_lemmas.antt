pub mod Settled
pub mod Cuts
pub mod Puts
pub mod Spelt
pub mod Seen
pub mod Given
pub mod Along
pub mod Words
